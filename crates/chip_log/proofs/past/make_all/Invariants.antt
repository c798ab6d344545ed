use Rattle.chip_log.proofs.Names.{◌≡◌, ◌≤◌, [], ◌-◌, take, AreBooksOf, AreSized}
use Rattle.chip_log.proofs.past.make_all.Given as goal

abbrev pub invariant-loop-next : goal.invariant-loop-next
invariant-loop-next l = record {
  place : l.next ≤ l.at;
  claimer : l.books.claimer ≡ l.fn.books.claimer;
  sized : AreSized l.fn.sizes l.books;
  made : AreBooksOf (take l.next l.rows) [] l.books;
}

abbrev pub decreases-loop-next : goal.decreases-loop-next
decreases-loop-next l = l.at - l.next
