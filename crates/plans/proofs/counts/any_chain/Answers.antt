use Rattle.std.proofs.Common.{◌≡◌, Bool, ◌||◌, ltb, List, [], ◌∷◌, rules, tests, refl, ap, ◌∙◌}
use Rattle.std.specs.List.{list_any}
use Rattle.std.proofs.lemmas.Iterator.{YieldsList-from_slice}
use Rattle.std.proofs.lemmas.Iterator.Search.{any_from_yields_List}
use Rattle.lists.specs.Lists.{some}
use Rattle.plans.proofs.counts.any_chain.Goals as goal

any_some : {A : Type 0} (f : A → Bool) (xs : List A) → list_any f xs ≡ some f xs
any_some f [] = refl
any_some f (x ∷ xs) = ap (λ b. f x || b) (any_some f xs)

pub returns : goal.returns
returns c = record {
  answer = any_from_yields_List (ltb 0) _ _ c.any.result c.any.ensures.ran (YieldsList-from_slice c.args.row.now cc) (λ x b q k. search (rules, tests))
      ∙ any_some (ltb 0) c.args.row.now;
}
