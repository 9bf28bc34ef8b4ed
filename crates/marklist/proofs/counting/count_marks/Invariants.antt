use Rattle.texts.specs.Lines.{lines_of}
use Rattle.marklist.proofs.TextLines.{Reading}
use Rattle.marklist.proofs.counting.count_marks.Given as goal

abbrev pub invariant-loop-before : goal.invariant-loop-before
invariant-loop-before l =
    (goal.iterator-loop-before).can_next l.before-iterator
    × (goal.iterator-loop-before).is_finite l.before-iterator
    × Reading l.text (lines_of l.before-iterator.iter.rest.now) l.before-iterator.count l.rows
