use Rattle.chip_log.proofs.Names.{◌≡◌}
use Rattle.chip_log.proofs.waits.senders_of.Given as goal

abbrev pub invariant-loop-row : goal.invariant-loop-row
invariant-loop-row l = (l.senders.processes ≡ l.fn.sizes.processes) × (l.senders.channels ≡ l.fn.sizes.channels)
