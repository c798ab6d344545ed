use Rattle.chip_core.proofs.ReachingLemmas.{legal_logs_are_runs, parts_by_their_own_events}
use Rattle.chip_core.proofs.laws.logs.Goals as goal

pub returns : goal.returns
returns c = record { runs = legal_logs_are_runs; own_events = parts_by_their_own_events }
