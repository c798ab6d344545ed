use Rattle.chip_log.proofs.Names.{◌≡◌, ◌≤◌, length, ◌-◌}
use Rattle.chip_log.proofs.PlacesLemmas.{AreFoundIn}
use Rattle.chip_log.proofs.claims.found.Given as goal

abbrev pub invariant-loop-at : goal.invariant-loop-at
invariant-loop-at l = record {
  place : l.at ≤ length l.rows;
  sized : length l.counts.items ≡ l.fn.sizes.processes;
  found : AreFoundIn l.rows l.at l.claims.items l.counts.items;
}

abbrev pub decreases-loop-at : goal.decreases-loop-at
decreases-loop-at l = length l.rows - l.at
