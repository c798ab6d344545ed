use Rattle.chip_log.proofs.Names.{◌≡◌, ◌≤◌, length, take, steps_of}
use Rattle.chip_log.proofs.order.rows_of.Given as goal

abbrev pub invariant-loop-row : goal.invariant-loop-row
invariant-loop-row l = record {
  few : l.count ≤ l.row-index;
  count : l.count ≡ length (steps_of l.process (take l.row-index l.rows));
}
