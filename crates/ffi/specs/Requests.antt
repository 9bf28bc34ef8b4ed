-- What a record of a call asks for, if it asks for anything. Assumes nothing.
use Rattle.std.specs.Prelude.{ℕ, cond, Some, None, Option, ◌==◌}
use Rattle.strategies.specs.declared.marks.Sign.{Sign}
use Rattle.strategies.specs.declared.marks.Sign.TheVariants.{Plus, Minus}
use Rattle.model.specs.declared.access.Access.{Access}
use Rattle.model.specs.declared.call.Call.{Call}
use Rattle.model.specs.declared.call.Call.TheVariants.{Join, Leave, Give, Withdraw, Quick, Walked, Least}
use Rattle.ffi.specs.declared.plain.CallRecord.{CallRecord}
use Rattle.ffi.specs.declared.request.Request.{Request}
use Rattle.ffi.specs.declared.request.Request.TheVariants.{OverChannels, OverEquipment, Equip}
use Rattle.ffi.specs.Strategies.{strategy_with}

-- go on with what there is
abbrev pub then : {A B : Type 0} → Option A → (A → Option B) → Option B
then (Some x) f = f x
then None f = None

-- 0 is plus and 1 is minus
abbrev pub sign_of : ℕ → Option Sign
sign_of k = cond (k == 0) (Some Plus) (cond (k == 1) (Some Minus) None)

-- the largest number of 32 bits stands for no container
abbrev pub container_of : ℕ → Option ℕ
container_of k = cond (k == 4294967295) None (Some k)

-- what is asked about and withdrawn: an account, an item and a right
abbrev pub access_of : CallRecord → Access
access_of c = record { account = c.first; item = c.second; right = c.third }

-- the calls that have a sign: give and least
abbrev pub give_of : CallRecord → Option Call
give_of c =
    then (sign_of c.fourth) (λ s.
    Some (Give (record { account = c.first; item = c.second; right = c.third; sign = s })))

abbrev pub least_of : CallRecord → Option Call
least_of c = then (sign_of c.fourth) (λ s. Some (Least (access_of c) s))

-- the calls that have a strategy: quick and walked
abbrev pub quick_of : CallRecord → Option Call
quick_of c = then (strategy_with c.fourth) (λ t. Some (Quick (access_of c) t))

abbrev pub walked_of : CallRecord → Option Call
walked_of c = then (strategy_with c.fourth) (λ t. Some (Walked (access_of c) t))

-- the call on the book of each kind, 0 to 6
abbrev pub call_of : CallRecord → Option Call
call_of c =
    cond (c.kind == 0) (Some (Join c.first c.second))
    (cond (c.kind == 1) (Some (Leave c.first c.second))
    (cond (c.kind == 2) (give_of c)
    (cond (c.kind == 3) (Some (Withdraw (access_of c)))
    (cond (c.kind == 4) (quick_of c)
    (cond (c.kind == 5) (walked_of c)
    (cond (c.kind == 6) (least_of c)
    None))))))

-- the call over its plan: 0 the channels, 1 the equipment table
abbrev pub over : ℕ → Call → Option Request
over plan call = cond (plan == 0) (Some (OverChannels call)) (cond (plan == 1) (Some (OverEquipment call)) None)

-- kind 7 is an item of the equipment table with its containers
abbrev pub request_of : CallRecord → Option Request
request_of c =
    cond (c.kind == 7) (Some (Equip c.first (container_of c.second) (container_of c.third)))
    (then (call_of c) (over c.plan))
