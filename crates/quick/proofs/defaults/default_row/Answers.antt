use Rattle.std.proofs.Common.{◌≡◌, ℕ, ◌+◌, List, length, get_or, sym, refl, ap, ◌∙◌, arith}
use Rattle.std.proofs.lemmas.List.{get_or-replicate}
use Rattle.table.specs.Tables.{members_in}
use Rattle.quick.specs.Sums.{defaults_below}
use Rattle.quick.proofs.Adding.{defaults_few, defaults_free, defaults_held, defaults_none}
use Rattle.quick.proofs.Reading.{count_few}
use Rattle.quick.proofs.defaults.default_row.Goals as goal
use Rattle.quick.proofs.defaults.default_row.Goals.{then-not-held-a, else-not-held-a}

pub add_default-requires : goal.add_default-requires
add_default-requires c =
    let t = c.args.table.now in
    record {
      top = omega arith;
      end = c.requires.end;
      room = λ d l.
          let old = c.loop-a.invariant.1 d l in
          let few = defaults_few t.accounts (members_in t) c.args.held.now c.args.s d c.loop-a.a (omega (arith, c.args.table.now.holds.few))
          (λ a u k. count_few t a c.args.s d (omega arith) c.requires.end k) in
          omega arith;
    }

pub loop-a-init : goal.loop-a-init
loop-a-init c =
    let t = c.args.table.now in
    (refl, λ d l. get_or-replicate {A = ℕ} 15 d 0 0 l ∙ sym (defaults_none t.accounts (members_in t) c.args.held.now c.args.s d))

pub loop-a-preserved : goal.loop-a-preserved
loop-a-preserved c =
    let t = c.args.table.now in
    let n = t.accounts in
    let E = members_in t in
    let held = c.args.held.now in
    elim c.if-not-held-a.branch [
      | then-not-held-a w ↦ (
        ap (λ (row : List ℕ). length row) w.row-is ∙ w.add_default.array_long,
        λ d l.
            let old : get_or c.loop-a.row d 0 ≡ defaults_below c.loop-a.a n E held c.args.s d = c.loop-a.invariant.1 d l in
            let new = w.add_default.ensures.sums d l in
            let moved = ap (λ (row : List ℕ). get_or row d 0) w.row-is in
            let more = defaults_free n E held c.args.s d c.loop-a.a w.if-not-held-a.true in
            let next : get_or c.if-not-held-a.row d 0 ≡ defaults_below (c.loop-a.a + 1) n E held c.args.s d = omega arith in
            next,
      )
      | else-not-held-a w ↦ (
        ap (λ (row : List ℕ). length row) w.row-is ∙ c.loop-a.invariant.0,
        λ d l.
            let old : get_or c.loop-a.row d 0 ≡ defaults_below c.loop-a.a n E held c.args.s d = c.loop-a.invariant.1 d l in
            let moved = ap (λ (row : List ℕ). get_or row d 0) w.row-is in
            let same = defaults_held n E held c.args.s d c.loop-a.a w.if-not-held-a.false in
            let next : get_or c.if-not-held-a.row d 0 ≡ defaults_below (c.loop-a.a + 1) n E held c.args.s d = omega arith in
            next,
      )
    ]

pub returns : goal.returns
returns c =
    let t = c.args.table.now in
    record {
      sums = λ d l.
          let all : c.loop-a.a ≡ t.accounts = omega arith in
          c.loop-a.invariant.1 d l ∙ ap (λ m. defaults_below m t.accounts (members_in t) c.args.held.now c.args.s d) all;
      row = (
        c.loop-a.invariant.0,
        λ d l.
            let old = c.loop-a.invariant.1 d l in
            let few = defaults_few t.accounts (members_in t) c.args.held.now c.args.s d c.loop-a.a (omega (arith, c.args.table.now.holds.few))
            (λ a u k. count_few t a c.args.s d (omega arith) c.requires.end k) in
            omega arith,
      );
    }
