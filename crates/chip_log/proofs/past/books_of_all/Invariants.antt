use Rattle.chip_log.proofs.Names.{◌≤◌, length, drop, AreKept, AreSized}
use Rattle.chip_log.proofs.past.books_of_all.Given as goal

abbrev pub invariant-loop-left : goal.invariant-loop-left
invariant-loop-left l = record {
  place : l.left ≤ length l.rows;
  sized : AreSized l.fn.sizes l.books;
  keeps : AreKept (drop l.left l.rows) l.books;
}

abbrev pub decreases-loop-left : goal.decreases-loop-left
decreases-loop-left l = l.left
