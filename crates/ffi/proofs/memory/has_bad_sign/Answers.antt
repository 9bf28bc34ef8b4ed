use Rattle.std.proofs.Common.{◌≡◌, Bool, List, [], ◌∷◌, ◌||◌, refl, ap, ◌∙◌, rules, tests}
use Rattle.std.proofs.lemmas.Iterator.{YieldsList-from_slice}
use Rattle.std.proofs.lemmas.Iterator.Search.{any_from_yields_List}
use Rattle.std.specs.List.{list_any}
use Rattle.lists.specs.Lists.{some}
use Rattle.ffi.specs.Left.{bad_sign}
use Rattle.ffi.proofs.memory.has_bad_sign.Goals as goal

any_is_some : {A : Type 0} (f : A → Bool) (xs : List A) → list_any f xs ≡ some f xs
any_is_some f [] = refl
any_is_some f (x ∷ xs) = ap (λ (b : Bool). f x || b) (any_is_some f xs)

pub returns : goal.returns
returns c =
    any_from_yields_List bad_sign _ _ _ c.any.ensures.ran (YieldsList-from_slice c.args.records.now cc) (λ x q b k. search (rules, tests))
    ∙ any_is_some bad_sign c.args.records.now
