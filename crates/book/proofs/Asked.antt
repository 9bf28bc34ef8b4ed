-- Questions that are refused or accepted, and how many marks can reach one. Assumes nothing.
use Rattle.std.proofs.Common.{◌≡◌, ℕ, ◌<◌, ◌≤◌, List, map, length, Ok, Err, Option, sym, ap, ◌∙◌, subst, arith}
use Rattle.std.proofs.lemmas.List.{length-take-le}
use Rattle.lists.specs.Lists.{keep, some}
use Rattle.plans.specs.Items.{Items, Lawful}
use Rattle.strategies.specs.Rows.{CountsOf, same_mark}
use Rattle.strategies.specs.declared.marks.Arrival.{Arrival}
use Rattle.strategies.specs.declared.marks.Sign.{Sign}
use Rattle.strategies.specs.declared.marks.Mark.TheVariants.{Signed}
use Rattle.strategies.specs.declared.strategy.Strategy.{Strategy}
use Rattle.strategies.specs.declared.rows.Rows.{Rows}
use Rattle.model.specs.Grants.{misfit}
use Rattle.model.specs.Model.{Model}
use Rattle.model.specs.Question.{answer_of, asked, least_asked, listing, nearest_of, question_checks, question_outcome}
use Rattle.model.specs.Refusals.{Outcome, checks, where_answered}
use Rattle.model.specs.RunLaws.{Standing}
use Rattle.model.specs.declared.answer.Answer.{Answer}
use Rattle.model.specs.declared.grant.Grant.{Grant}
use Rattle.model.specs.declared.refusal.Refusal.{Refusal}
use Rattle.chains.proofs.Limits.{sound_by_tests}
use Rattle.model.proofs.Bounds.{listed_few}
use Rattle.records.specs.Records.{standing_in}
use Rattle.table.specs.Tables.{SoundTable, members_in}
use Rattle.table.specs.declared.tables.Table.{Table}
use Rattle.table.proofs.Sound.{sound_table, within}
use Rattle.book.specs.declared.books.Book.{Book}
use Rattle.book.specs.Books.{accounts_of, capacity_in, shown}

module _ (n : ℕ) (M : Model) (I : Items) (s o r : ℕ) (t : Strategy) where
  pub asked_refused : (e : Refusal) → Err e ≡ checks (question_checks n I s o r) → Err e ≡ asked n M I s o r t
  unfolding asked question_outcome
  asked_refused e is = ap (λ (x : Outcome). where_answered x (answer_of t (listing n M I s o r))) is

  pub asked_accepted : (a : Answer) → Ok tt ≡ checks (question_checks n I s o r) → a ≡ answer_of t (listing n M I s o r) → Ok a ≡ asked n M I s o r t
  unfolding asked question_outcome
  asked_accepted a is e = ap Ok e ∙ ap (λ (x : Outcome). where_answered x (answer_of t (listing n M I s o r))) is

-- the least distance of an arrival of the sign in a listing
abbrev pub first : ℕ → Model → Items → ℕ → ℕ → ℕ → Sign → Option ℕ
first n M I s o r t = nearest_of (map (λ a. a.distance) (keep (λ a. same_mark (Signed t) a.mark) (listing n M I s o r)))

module _ (n : ℕ) (M : Model) (I : Items) (s o r : ℕ) (t : Sign) where
  pub least_refused : (e : Refusal) → Err e ≡ checks (question_checks n I s o r) → Err e ≡ least_asked n M I s o r t
  unfolding least_asked question_outcome
  least_refused e is = ap (λ (x : Outcome). where_answered x (first n M I s o r t)) is

  pub least_accepted : (d : Option ℕ) → Ok tt ≡ checks (question_checks n I s o r) → d ≡ first n M I s o r t → Ok d ≡ least_asked n M I s o r t
  unfolding least_asked question_outcome
  least_accepted d is e = ap Ok e ∙ ap (λ (x : Outcome). where_answered x (first n M I s o r t)) is

-- what every book's invariant says, in the model's words
pub table_sound : (b : Book) → SoundTable b.table
table_sound b = sound_table b.table

pub standing : (b : Book) → Standing (accounts_of b) (capacity_in b) (shown b)
standing b = record {
  sound = (sound_by_tests (accounts_of b) (members_in b.table) (within b.table)).1 (b.table.short, b.table.few);
  fitting = ap (λ (n : ℕ). some (misfit n) (standing_in b.grants)) (sym b.same) ∙ b.grants.fitting;
  once = b.grants.once;
  room =
      let room = b.grants.room in
      let long = length-take-le b.grants.standing b.grants.records.now (omega arith) in
      omega arith;
}

-- no more marks reach a question than this
pub asked_few : (b : Book) (I : Items) → Lawful I → (s o r : ℕ) → s < accounts_of b → length (listing (accounts_of b) (shown b) I s o r) ≤ 104498155008
asked_few b I lawful s o r known = listed_few (accounts_of b) (capacity_in b) (shown b) I b.table.holds.few (omega arith) (standing b) lawful s o r known

-- so no total of an answer on rows that count them is larger
pub few_asked : (b : Book) (I : Items) → Lawful I → (s o r : ℕ) → s < accounts_of b →
    (t : Table) → t ≡ b.table → (gs : List Grant) → gs ≡ standing_in b.grants →
    (rows : Rows) → CountsOf rows (listing t.accounts (record { members = members_in t; grants = gs }) I s o r) →
    (a : Answer) → ((l : List Arrival) → CountsOf rows l → (a.plus_total ≤ length l) × (a.minus_total ≤ length l)) →
    (a.plus_total ≤ 104498155008) × (a.minus_total ≤ 104498155008)
few_asked b I lawful s o r known t table gs stand rows counts a few =
    let n = accounts_of b in
    let most = asked_few b I lawful s o r known in
    let these =
    few (listing n (shown b) I s o r)
    (subst (λ (u : Table). CountsOf rows (listing u.accounts (record { members = members_in u; grants = standing_in b.grants }) I s o r)) table
    (subst (λ (hs : List Grant). CountsOf rows (listing t.accounts (record { members = members_in t; grants = hs }) I s o r)) stand counts)) in
    (omega arith, omega arith)
