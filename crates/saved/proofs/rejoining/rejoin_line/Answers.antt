use Rattle.std.proofs.Common.{◌≡◌, true, false, Ok, sym, ◌∙◌, subst, arith}
use Rattle.std.proofs.lemmas.Grind.{common_steps}
use Rattle.chains.specs.Chains.{Joinable, Members, Sound}
use Rattle.chains.specs.Table.{shown_members}
use Rattle.chains.proofs.Held.{joinable_part, part_sound}
use Rattle.model.specs.Model.{join_outcome}
use Rattle.book.specs.Books.{accounts_of, shown}
use Rattle.saved.specs.Saved.{before}
use Rattle.saved.proofs.Accepted.{join_accepted, on_err}
use Rattle.saved.proofs.Before.{before_more, before_not, before_part}
use Rattle.saved.proofs.Joined.{joined_members}
use Rattle.saved.proofs.rejoining.rejoin_line.Goals.{then-shows+in_ok-join, else-shows}
use Rattle.saved.proofs.rejoining.rejoin_line.Goals as goal

pub returns-in_err-join-clause-failed : goal.returns-in_err-join-clause-failed
returns-in_err-join-clause-failed c =
    let inv = c.loop-member.invariant in
    let n = c.args.wanted.accounts in
    let E = shown_members n c.args.wanted.numbers.now in
    let g = c.args.group in
    let m = c.loop-member.member in
    let stands : E g m ≡ true = sym c.shows.ensures ∙ c.if-shows.true in
    let failed : Sound n E → ⊥ = λ sound.
    let part = part_sound n (before E g m) E (before_part E g m) sound in
    let can = joinable_part n (before E g m) E sound (before_part E g m) g m stands (before_not E g m) in
    let accepted : join_outcome n (shown c.loop-member.book) g m ≡ Ok tt =
    join_accepted n (shown c.loop-member.book) g m (subst (Sound n) (sym inv.joined) part) (subst (λ (F : Members). Joinable n F g m) (sym inv.joined) can) in
    let known : accounts_of c.loop-member.book ≡ n = inv.same.1 ∙ c.requires.accounts in
    grind (arith, common_steps) in
    on_err _ _ failed

pub loop-member-preserved : goal.loop-member-preserved
loop-member-preserved c =
    let inv = c.loop-member.invariant in
    let n = c.args.wanted.accounts in
    let E = shown_members n c.args.wanted.numbers.now in
    let g = c.args.group in
    let m = c.loop-member.member in
    let more = before_more E g m in
    elim c.if-shows.branch [
      | then-shows+in_ok-join w ↦
          let stands : E g m ≡ true = sym c.shows.ensures ∙ w.if-shows.true in
          let added = joined_members (accounts_of c.loop-member.book) (shown c.loop-member.book) g m in
          record { joined = grind (arith, common_steps); same = grind (arith, common_steps) }
      | else-shows w ↦
          let none : E g m ≡ false = sym c.shows.ensures ∙ w.if-shows.false in
          record { joined = grind (arith, common_steps); same = grind (arith, common_steps) }
    ]
