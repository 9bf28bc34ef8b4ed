use Rattle.std.proofs.Common.{◌≡◌, ℕ, ◌+◌, ◌<◌, false, ◌&&◌, eqb, ltb, List, length, get_or, take, sym, ap, ◌∙◌, arith}
use Rattle.std.proofs.ByRecursion.{All-get_or}
use Rattle.std.proofs.lemmas.List.{take_all}
use Rattle.std.proofs.lemmas.Bool.{and_left, and_right, cond-true, lt-ltb, ne_eqb}
use Rattle.lists.specs.Lists.{some}
use Rattle.plans.specs.Counts.{entry, row_at, row_read}
use Rattle.table.specs.Tables.{members_in}
use Rattle.strategies.specs.declared.marks.Sign.{Sign}
use Rattle.strategies.specs.declared.marks.Sign.TheVariants.{Plus, Minus}
use Rattle.model.specs.Counted.{above_by, labelled_by, of_grant, of_grants}
use Rattle.model.specs.declared.grant.Grant.{Grant}
use Rattle.model.proofs.Bounds.{fit_accounts, fit_items}
use Rattle.quick.proofs.Adding.{no_chains}
use Rattle.quick.proofs.Arrivals.{arrived_at, arrived_more, arrived_none, arrived_skip, no_grant}
use Rattle.quick.proofs.Gives.{grants_few, of_grant_no_items, of_grant_right}
use Rattle.quick.proofs.Reading.{above_read}
use Rattle.quick.specs.declared.arriving.Arrived.{Arrived}
use Rattle.quick.proofs.arriving.arrive.Goals as goal
use Rattle.quick.proofs.arriving.arrive.Goals.{then-grant-access+then-leads_from, else-grant-access, else-grant-access-via-then-grant-access+else-leads_from, else-grant-access-via-else-grant-access}

-- a row that is read of an item up to 255
read : (counts : List (List ℕ)) (b : ℕ) → b < 256 → row_read counts b ≡ row_at counts b
read counts b l = cond-true (ltb b 256) (row_at counts b) _ (lt-ltb b 256 l)

pub add-requires : goal.add-requires
add-requires c =
    let t = c.args.from.now.table.now in
    let gs = c.args.from.now.grants.now in
    let i = c.loop-grant.grant-index in
    let items = c.args.items.now in
    let inside : i < length gs = c.loop-grant-test.true in
    record {
      account = All-get_or (λ g. g.account < t.accounts) gs i no_grant inside (fit_accounts t.accounts gs c.args.from.now.fitting);
      item = All-get_or (λ g. g.item < 256) gs i no_grant inside (fit_items t.accounts gs c.args.from.now.fitting);
      end = c.requires;
      plus_room = λ d l.
          let old = c.loop-grant.invariant.plus_is d l in
          let few = grants_few t (entry items.counts) items.few c.args.access.account c.requires c.args.access.right Plus d gs i c.args.from.now.room c.args.from.now.fitting in
          omega arith;
      minus_room = λ d l.
          let old = c.loop-grant.invariant.minus_is d l in
          let few = grants_few t (entry items.counts) items.few c.args.access.account c.requires c.args.access.right Minus d gs i c.args.from.now.room c.args.from.now.fitting in
          omega arith;
    }

pub loop-grant-init : goal.loop-grant-init
loop-grant-init c =
    let t = c.args.from.now.table.now in
    arrived_none t.accounts (members_in t) (entry c.args.items.now.counts) c.args.access.account c.args.access.right

pub loop-grant-preserved : goal.loop-grant-preserved
loop-grant-preserved c =
    let t = c.args.from.now.table.now in
    let n = t.accounts in
    let E = members_in t in
    let items = c.args.items.now in
    let L = entry items.counts in
    let gs = c.args.from.now.grants.now in
    let i = c.loop-grant.grant-index in
    let g : Grant = get_or gs i no_grant in
    let s = c.args.access.account in
    let r = c.args.access.right in
    let inside : i < length gs = c.loop-grant-test.true in
    let account : g.account < n = All-get_or (λ g. g.account < n) gs i no_grant inside (fit_accounts n gs c.args.from.now.fitting) in
    let item : g.item < 256 = All-get_or (λ g. g.item < 256) gs i no_grant inside (fit_items n gs c.args.from.now.fitting) in
    let same = ap (some (ltb 0)) (read items.counts g.item item) in
    elim c.if-grant-access.branch [
      | then-grant-access+then-leads_from w ↦
          arrived_at n E L s r _ _ _ _ _ _ _ (ap (λ (a : Arrived). a.plus) w.arrived-is) (ap (λ (a : Arrived). a.minus) w.arrived-is) (ap (λ (a : Arrived). a.held) w.arrived-is ∙ w.add.ensures.held)
          (arrived_more n E L s r gs i inside c.loop-grant.arrived.plus c.loop-grant.arrived.minus c.loop-grant.arrived.held c.loop-grant.invariant
          w.add.new.self.plus w.add.new.self.minus w.add.ensures.long.0 w.add.ensures.long.1
          (λ d l. w.add.ensures.plus d l ∙ ap (λ x. get_or c.loop-grant.arrived.plus d 0 + of_grant n E L s x Plus d g) w.if-grant-access.true)
          (λ d l. w.add.ensures.minus d l ∙ ap (λ x. get_or c.loop-grant.arrived.minus d 0 + of_grant n E L s x Minus d g) w.if-grant-access.true)
          w.if-grant-access.true
          (sym (above_read items.counts g.item (items.wide g.item item)) ∙ sym same ∙ sym w.if-leads_from.ensures.answer)
          (omega (arith, c.args.from.now.table.now.holds.few)))
      | else-grant-access w ↦
          arrived_at n E L s r _ _ _ _ _ _ _ (ap (λ (a : Arrived). a.plus) w.arrived-is) (ap (λ (a : Arrived). a.minus) w.arrived-is) (ap (λ (a : Arrived). a.held) w.arrived-is)
          (elim w.else-grant-access.branch [
            | else-grant-access-via-then-grant-access+else-leads_from v ↦
                let none : some (ltb 0) (row_at items.counts g.item) ≡ false = sym same ∙ sym v.if-leads_from.ensures.answer in
                let zero = no_chains (row_at items.counts g.item) (items.wide g.item item) none in
                let above : above_by L g.item ≡ false = sym (above_read items.counts g.item (items.wide g.item item)) ∙ none in
                arrived_skip n E L s r gs i inside c.loop-grant.arrived.plus c.loop-grant.arrived.minus c.loop-grant.arrived.held c.loop-grant.invariant
                (λ sign d. of_grant_no_items n E L s r sign d g zero)
                (λ a. and_right (eqb g.account a) (eqb g.right r && above_by L g.item) (and_right (eqb g.right r) (above_by L g.item) above))
            | else-grant-access-via-else-grant-access v ↦
                arrived_skip n E L s r gs i inside c.loop-grant.arrived.plus c.loop-grant.arrived.minus c.loop-grant.arrived.held c.loop-grant.invariant
                (λ sign d. of_grant_right n E L s r sign d g v.if-grant-access.false)
                (λ a. and_right (eqb g.account a) (eqb g.right r && above_by L g.item) (and_left (eqb g.right r) (above_by L g.item) (ne_eqb g.right r v.if-grant-access.false)))
          ])
    ]

pub returns : goal.returns
returns c =
    let t = c.args.from.now.table.now in
    let gs = c.args.from.now.grants.now in
    let L = entry c.args.items.now.counts in
    let all : take c.loop-grant.grant-index gs ≡ gs = take_all c.loop-grant.grant-index gs (omega arith) in
    let inv = c.loop-grant.invariant in
    let items = c.args.items.now in
    let few = λ (sign : Sign) (d : ℕ). grants_few t L items.few c.args.access.account c.requires c.args.access.right sign d gs c.loop-grant.grant-index c.args.from.now.room c.args.from.now.fitting in
    record {
      plus = λ d l. inv.plus_is d l ∙ ap (λ hs. of_grants t.accounts (members_in t) hs L c.args.access.account c.args.access.right Plus d) all;
      minus = λ d l. inv.minus_is d l ∙ ap (λ hs. of_grants t.accounts (members_in t) hs L c.args.access.account c.args.access.right Minus d) all;
      held = λ a l. inv.held_is a l ∙ ap (λ hs. labelled_by hs L c.args.access.right a) all;
      plus_row = (inv.plus_long, λ d l. let old = inv.plus_is d l in omega (arith, few Plus d));
      minus_row = (inv.minus_long, λ d l. let old = inv.minus_is d l in omega (arith, few Minus d));
    }
