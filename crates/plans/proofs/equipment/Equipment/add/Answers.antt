use Rattle.std.proofs.Common.{◌≡◌, ℕ, ◌<◌, ◌≤◌, max, false, List, Result, sym, refl, ap, ◌∙◌, arith, length}
use Rattle.std.proofs.lemmas.Bool.Decides.{nat_tests}
use Rattle.std.specs.Option.{option_to_list}
use Rattle.plans.specs.declared.refusal.EquipmentRefusal.{EquipmentRefusal}
use Rattle.plans.specs.Items.{Items, tallest, height_of}
use Rattle.plans.specs.Equipment.{both, twice}
use Rattle.plans.specs.Filling.{some_unknown, behind}
use Rattle.plans.specs.Table.{table}
use Rattle.plans.proofs.Filled.{answer_not_next, answer_bad, answer_high, answer_ok, unknown_both, tallest_both, or_first, or_second, or_third, or_none, neither}
use Rattle.plans.proofs.Added.{good_added, table_added}
use Rattle.plans.proofs.LongestRuns.{longest}
use Rattle.plans.proofs.equipment.Equipment.add.Goals as goal
use Rattle.plans.proofs.equipment.Equipment.add.Goals.{then-item-self-via-then-item-self, then-item-self-via-else-item-self+then-item-eq-ITEMS, then-lacks-via-then-lacks, then-lacks-via-else-lacks+then-lacks-2, then-lacks-via-else-lacks+else-lacks-2+then-same}

-- equal answers leave the same plan
same_behind : (M : Items) (item : ℕ) (cs : List ℕ) (r s : Result (Unit {0}) EquipmentRefusal) → r ≡ s → behind r M item cs ≡ behind s M item cs
same_behind M item cs r s e = ap (λ (x : Result (Unit {0}) EquipmentRefusal). behind x M item cs) e

pub returns-then-item-self : goal.returns-then-item-self
returns-then-item-self c =
    let e = c.args.self.now in
    let answered = answer_not_next e.places e.filled c.args.item c.args.first c.args.second e.within
    (elim c.then-item-self.branch [
      | then-item-self-via-then-item-self w ↦ grind (arith, nat_tests)
      | then-item-self-via-else-item-self+then-item-eq-ITEMS w ↦ grind (arith, nat_tests)
    ]) in
    record { answer = answered; after = same_behind (table e) c.args.item (both c.args.first c.args.second) _ _ answered; same = refl; height = longest }

pub returns-then-lacks : goal.returns-then-lacks
returns-then-lacks c =
    let e = c.args.self.now in
    let a = some_unknown (table e) (option_to_list c.args.first) in
    let b = some_unknown (table e) (option_to_list c.args.second) in
    let t = twice c.args.first c.args.second in
    let within = e.within in
    let room : c.args.item < 256 = omega arith in
    let answered = answer_bad e.places e.filled c.args.item c.args.first c.args.second e.within c.if-item-self.false room
    (elim c.then-lacks.branch [
      | then-lacks-via-then-lacks w ↦ or_first a b t w.if-lacks.ensures.answer
      | then-lacks-via-else-lacks+then-lacks-2 w ↦ or_second a b t w.if-lacks.ensures.answer w.if-lacks-2.ensures.answer
      | then-lacks-via-else-lacks+else-lacks-2+then-same w ↦
          or_third a b t w.if-lacks.ensures.answer w.if-lacks-2.ensures.answer w.if-same.ensures.answer
    ]) in
    record { answer = answered; after = same_behind (table e) c.args.item (both c.args.first c.args.second) _ _ answered; same = refl; height = longest }

pub returns-then-height-gt-HIGHEST : goal.returns-then-height-gt-HIGHEST
returns-then-height-gt-HIGHEST c =
    let e = c.args.self.now in
    let M = table e in
    let within = e.within in
    let room : c.args.item < 256 = omega arith in
    let high : 7 < max (tallest (height_of M) (option_to_list c.args.first)) (tallest (height_of M) (option_to_list c.args.second)) = omega arith in
    let answered = answer_high e.places e.filled c.args.item c.args.first c.args.second e.within c.if-item-self.false room
    (or_none (some_unknown M (option_to_list c.args.first)) (some_unknown M (option_to_list c.args.second)) (twice c.args.first c.args.second)
    c.if-lacks.ensures.answer c.if-lacks-2.ensures.answer c.if-same.ensures.answer) high in
    record { answer = answered; after = same_behind M c.args.item (both c.args.first c.args.second) _ _ answered; same = refl; height = longest }

pub invariant_of-self : goal.invariant_of-self
invariant_of-self c =
    let e = c.args.self.now in
    let M = table e in
    let within = e.within in
    let room : c.args.item < 256 = omega arith in
    let size : length e.places ≡ 256 = omega arith in
    let known : some_unknown M (both c.args.first c.args.second) ≡ false =
    unknown_both M c.args.first c.args.second
    ∙ neither (some_unknown M (option_to_list c.args.first)) (some_unknown M (option_to_list c.args.second))
    c.if-lacks.ensures.answer c.if-lacks-2.ensures.answer in
    let high : c.max-height.result ≡ tallest (height_of M) (both c.args.first c.args.second) =
    let t = tallest_both (height_of M) c.args.first c.args.second in omega arith in
    record {
      within = omega arith;
      good = good_added e.places e.filled c.args.item c.args.first c.args.second c.max-height.result size c.if-item-self.false room
          e.good known (sym c.if-same.ensures.answer) high (omega arith);
    }

pub returns : goal.returns
returns c =
    let e = c.args.self.now in
    let M = table e in
    let within = e.within in
    let room : c.args.item < 256 = omega arith in
    let size : length e.places ≡ 256 = omega arith in
    let low : max (tallest (height_of M) (option_to_list c.args.first)) (tallest (height_of M) (option_to_list c.args.second)) ≤ 7 = omega arith in
    let answered = answer_ok e.places e.filled c.args.item c.args.first c.args.second e.within c.if-item-self.false room
    (or_none (some_unknown M (option_to_list c.args.first)) (some_unknown M (option_to_list c.args.second)) (twice c.args.first c.args.second)
    c.if-lacks.ensures.answer c.if-lacks-2.ensures.answer c.if-same.ensures.answer) low in
    record {
      answer = answered;
      after = table_added e.places e.filled c.args.item c.args.first c.args.second c.max-height.result size c.if-item-self.false room
          ∙ same_behind M c.args.item (both c.args.first c.args.second) _ _ answered;
      same = tt;
      height = longest;
    }
