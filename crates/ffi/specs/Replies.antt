-- How replies and grants are written into records. Assumes nothing.
use Rattle.std.specs.Prelude.{ℕ, List, replicate, Some, None, Ok, Err, Option, Result}
use Rattle.strategies.specs.declared.marks.Sign.{Sign}
use Rattle.strategies.specs.declared.marks.Sign.TheVariants.{Plus, Minus}
use Rattle.plans.specs.Refusals.{refusal_number as equipment_number}
use Rattle.plans.specs.declared.refusal.EquipmentRefusal.{EquipmentRefusal}
use Rattle.model.specs.Refusals.{refusal_number}
use Rattle.model.specs.declared.answer.Answer.{Answer}
use Rattle.model.specs.declared.call.Reply.{Reply}
use Rattle.model.specs.declared.call.Reply.TheVariants.{Done, Answered, Distance}
use Rattle.model.specs.declared.grant.Grant.{Grant}
use Rattle.ffi.specs.declared.plain.GrantRecord.{GrantRecord}
use Rattle.ffi.specs.declared.plain.ReplyRecord.{ReplyRecord}

-- 0 is plus and 1 is minus
abbrev pub sign_number : Sign → ℕ
sign_number Plus = 0
sign_number Minus = 1

abbrev pub grant_record : Grant → GrantRecord
grant_record g = record { account = g.account; item = g.item; right = g.right; sign = sign_number g.sign }

-- a row of fifteen zeros
abbrev pub no_row : List ℕ
no_row = replicate 15 0

-- nothing but the number of a refusal, 0 for an accepted call, and a distance
abbrev pub short_reply : ℕ → ℕ → ReplyRecord
short_reply number distance = record {
  refusal = number;
  sign = 0;
  distance = distance;
  plus = no_row;
  minus = no_row;
  default = no_row;
  plus_total = 0;
  minus_total = 0;
}

-- the whole answer of a question
abbrev pub answer_reply : Answer → ReplyRecord
answer_reply a = record {
  refusal = 0;
  sign = sign_number a.sign;
  distance = 0;
  plus = a.plus;
  minus = a.minus;
  default = a.default;
  plus_total = a.plus_total;
  minus_total = a.minus_total;
}

-- 255 stands for no distance
abbrev pub distance_number : Option ℕ → ℕ
distance_number (Some d) = d
distance_number None = 255

-- the record of what gives nothing unless it is refused, where refusals have these numbers
abbrev pub done_record : {R : Type 0} → (R → ℕ) → Result (Unit {0}) R → ReplyRecord
done_record number (Ok u) = short_reply 0 0
done_record number (Err e) = short_reply (number e) 0

-- the record of what a call on the book gave
abbrev pub reply_record : Reply → ReplyRecord
reply_record (Done r) = done_record refusal_number r
reply_record (Answered (Ok a)) = answer_reply a
reply_record (Answered (Err e)) = short_reply (refusal_number e) 0
reply_record (Distance (Ok d)) = short_reply 0 (distance_number d)
reply_record (Distance (Err e)) = short_reply (refusal_number e) 0

-- the record of what the equipment table gave
abbrev pub equipment_record : Result (Unit {0}) EquipmentRefusal → ReplyRecord
equipment_record r = done_record equipment_number r

-- the record asks for nothing: an unknown kind, plan, sign or strategy
abbrev pub no_call : ReplyRecord
no_call = short_reply 255 0
