use Rattle.chip_core.proofs.ClosingLemmas.{nothing_in_flight}
use Rattle.chip_core.proofs.ReadLemmas.{reads_tell}
use Rattle.chip_core.proofs.ScheduleLemmas.{nothing_stirs}
use Rattle.chip_core.proofs.laws.closed_roots.Goals as goal

pub returns : goal.returns
returns c = record { in_flight = nothing_in_flight; reads = reads_tell; stirs = nothing_stirs }
