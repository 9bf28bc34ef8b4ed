use Rattle.std.proofs.Common.{◌≡◌, take, drop}
use Rattle.chains.specs.Table.{size}
use Rattle.model.specs.Runs.{run, run_replies}
use Rattle.book.specs.Books.{accounts_of, capacity_in, counts_in, records_in, shown}
use Rattle.runs.specs.Records.{record_run}
use Rattle.runs.proofs.calls.run_calls.Given as goal

-- the calls so far have been made, on the book and on the model alike
abbrev pub invariant-loop-i : goal.invariant-loop-i
invariant-loop-i g l =
    let b = l.initial.book in
    record {
      accounts : accounts_of l.book ≡ accounts_of b;
      capacity : capacity_in l.book ≡ capacity_in b;
      after : shown l.book ≡ run (accounts_of b) (capacity_in b) (shown b) (take l.i l.calls);
      answers : take l.i l.replies ≡ run_replies (accounts_of b) (capacity_in b) (g.P.Plan.meaning l.plan) (shown b) (take l.i l.calls);
      rest : drop l.i l.replies ≡ drop l.i l.initial.replies;
      records : records_in l.book ≡ record_run (accounts_of b) (capacity_in b) (shown b) (records_in b) (take l.i l.calls);
      behind : drop (size (accounts_of b)) (counts_in l.book) ≡ drop (size (accounts_of b)) (counts_in b);
    }
