use Rattle.std.proofs.Common.{◌≡◌, take, drop}
use Rattle.book.specs.Books.{accounts_of, capacity_in}
use Rattle.ffi.specs.Runs.{all_replies, run, standing_on}
use Rattle.ffi.proofs.served.Served.serve_all.Given as goal

-- the records so far have been served, on the book and on the model alike
abbrev pub invariant-loop-i : goal.invariant-loop-i
invariant-loop-i l = record {
  accounts : accounts_of l.self.book ≡ accounts_of l.initial.self.book;
  capacity : capacity_in l.self.book ≡ capacity_in l.initial.self.book;
  stands : standing_on l.self ≡ run (accounts_of l.initial.self.book) (capacity_in l.initial.self.book) (standing_on l.initial.self) (take l.i l.calls);
  told : take l.i l.replies ≡ all_replies (accounts_of l.initial.self.book) (capacity_in l.initial.self.book) (standing_on l.initial.self) (take l.i l.calls);
  behind : drop l.i l.replies ≡ drop l.i l.initial.replies;
}
