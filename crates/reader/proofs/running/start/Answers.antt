use Rattle.std.proofs.Common.{◌≡◌, ℕ, ◌*◌, ◌<◌, ◌≤◌, min, ◌⊎◌, length, ap, ◌∙◌, inl, inr, mul-le-mul, arith, rules}
use Rattle.std.proofs.lemmas.Bool.{cases_lt}
use Rattle.chains.specs.Table.{size}
use Rattle.table.specs.Tables.{Largest}
use Rattle.reader.proofs.running.start.Goals as goal

-- 8,192 counts are room for 32 accounts, and for no more
thirty_two : (len n : ℕ) → len ≡ 8192 → Largest len n → n ≡ 32
thirty_two len n e l = split (cases_lt 32 n)
  where
    at_least : 32 ≤ n
    at_least = l.most 32 (omega arith) (omega arith)

    split : (32 < n) ⊎ (n ≤ 32) → n ≡ 32
    split (inl more) =
        let square : 33 * 33 ≤ n * n = mul-le-mul more more in
        let fits : size n ≤ len = l.fits in
        absurd (omega arith)
    split (inr less) = let least = at_least in omega arith

pub invariant_of-result : goal.invariant_of-result
invariant_of-result c = record {
  accounts = thirty_two (length c.args.counts.now) _ (search rules) c.make.ensures.accounts;
  capacity =
      ap (λ xs. min 512 (length xs)) c.make.ensures.records
      ∙ (let long : length c.args.records.now ≡ 512 = search rules in ap (min 512) long);
}
