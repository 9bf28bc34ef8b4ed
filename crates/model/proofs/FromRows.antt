-- Answers from counted marks. Assumes nothing.
use Rattle.std.proofs.Common.{◌≡◌, ℕ, ◌≤◌, List, [], ◌∷◌, map, length, get_or, sym, arith, length-append}
use Rattle.std.proofs.lemmas.List.FromFn.{fill_by_all}
use Rattle.lists.specs.Lists.{below}
use Rattle.strategies.specs.Resolve.{same_sign, vote_of, votes, tally, decided}
use Rattle.strategies.specs.Rows.{CountsOf, counted}
use Rattle.strategies.specs.declared.marks.Sign.{Sign}
use Rattle.strategies.specs.declared.marks.Sign.TheVariants.{Plus, Minus}
use Rattle.strategies.specs.declared.marks.Mark.{Mark}
use Rattle.strategies.specs.declared.marks.Mark.TheVariants.{Signed, Default}
use Rattle.strategies.specs.declared.marks.Arrival.{Arrival}
use Rattle.strategies.specs.declared.rows.Row.{Row}
use Rattle.strategies.specs.declared.rows.Rows.{Rows}
use Rattle.strategies.specs.declared.strategy.DefaultRule.{DefaultRule}
use Rattle.strategies.specs.declared.strategy.Strategy.{Strategy}
use Rattle.model.specs.Question.{answer_of}
use Rattle.model.specs.declared.answer.Answer.{Answer}
use Rattle.model.proofs.Bounds.{kept_le}

-- a row of fifteen counts, place by place
row_is : (row : Row) (f : ℕ → ℕ) → ((d : ℕ) → f d ≡ get_or row.counts d 0) → row.counts ≡ map f (below 15)
row_is row f h = fill_by_all f row.counts 15 0 row.long (λ d l. sym (h d))

vote_few : (rule : DefaultRule) (m : Mark) (d : ℕ) → length (vote_of rule m d) ≤ 1
vote_few rule m d = grind arith

votes_few : (rule : DefaultRule) (l : List Arrival) → length (votes rule l) ≤ length l
unfolding votes
votes_few rule [] = omega arith
votes_few rule (x ∷ xs) =
    let both = length-append (vote_of rule x.mark x.distance) (votes rule xs) in
    let one = vote_few rule x.mark x.distance in
    let rest = votes_few rule xs in
    omega arith

-- no total is larger than the number of rows
pub tally_few : (s : Sign) (rule : DefaultRule) (l : List Arrival) → tally s (votes rule l) ≤ length l
unfolding tally
tally_few s rule l =
    let kept = kept_le (λ v. same_sign s v.sign) (votes rule l) in
    let few = votes_few rule l in
    omega arith

-- what is read off rows is the answer on every list that they count
pub answers : (rows : Rows) (t : Strategy) (sign : Sign) (plus minus : ℕ) (l : List Arrival) → CountsOf rows l →
    sign ≡ decided t l → plus ≡ tally Plus (votes t.default l) → minus ≡ tally Minus (votes t.default l) →
    ◌≡◌ {A = Answer}
    (record { sign = sign; plus = rows.plus.counts; minus = rows.minus.counts; default = rows.default.counts; plus_total = plus; minus_total = minus })
    (answer_of t l)
unfolding answer_of
answers rows t sign plus minus l of s p m = λ i. record {
  sign = s i;
  plus = row_is rows.plus (counted (Signed Plus) l) (of (Signed Plus)) i;
  minus = row_is rows.minus (counted (Signed Minus) l) (of (Signed Minus)) i;
  default = row_is rows.default (counted Default l) (of Default) i;
  plus_total = p i;
  minus_total = m i;
}
