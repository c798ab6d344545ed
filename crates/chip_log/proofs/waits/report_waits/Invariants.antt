use Rattle.chip_log.proofs.Names.{◌≡◌, ◌<◌, length}
use Rattle.chip_log.proofs.waits.report_waits.Given as goal

abbrev pub invariant-loop-wait : goal.invariant-loop-wait
invariant-loop-wait g l = (l.senders.processes ≡ l.fn.sizes.processes) × (l.senders.channels ≡ l.fn.sizes.channels)
    × (length l.is_named.items ≡ l.fn.sizes.processes) × (l.last < l.fn.sizes.processes)
