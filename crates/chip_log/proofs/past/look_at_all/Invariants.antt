use Rattle.chip_log.proofs.Names.{◌≡◌, ◌+◌, ◌≤◌, List, length, take, HasEnds, AreBooksOf, AreSized, LogRow}
use Rattle.chip_log.proofs.PastLemmas.{IsSplit}
use Rattle.chip_log.proofs.past.look_at_all.Given as goal

abbrev pub invariant-loop-left : goal.invariant-loop-left
invariant-loop-left l = record {
  claimer : l.books.claimer ≡ l.fn.claim.process;
  sized : AreSized l.fn.sizes l.books;
  ends : HasEnds l.rows;
  kept : List LogRow;
  short : l.left + length kept ≤ length l.rows;
  split : IsSplit l.rows ends l.fn.claim.process l.fn.claim.row (take l.left l.rows) kept;
  books : AreBooksOf (take l.left l.rows) kept l.books;
}

abbrev pub decreases-loop-left : goal.decreases-loop-left
decreases-loop-left l = l.left
