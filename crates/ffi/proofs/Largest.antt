-- Memory for more than 64 accounts has room for no more accounts. Assumes nothing.
use Rattle.std.proofs.Common.{ℕ, ◌*◌, ◌≤◌, min, mul-le-mul, arith}
use Rattle.table.specs.Tables.{Largest}

pub largest_in_all : (len n : ℕ) → Largest (min 32768 len) n → Largest len n
largest_in_all len n it = record {
  few = it.few;
  fits = let h = it.fits in omega arith;
  most = λ m h s. let square : m * m ≤ 64 * 64 = mul-le-mul h h in it.most m h (omega arith);
}
