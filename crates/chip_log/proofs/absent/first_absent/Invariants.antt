use Rattle.chip_log.proofs.Names.{◌≡◌, ℕ, ◌<◌, true, has_row_at}
use Rattle.chip_log.proofs.absent.first_absent.Given as goal

abbrev pub invariant-loop-process : goal.invariant-loop-process
invariant-loop-process l = (q : ℕ) → q < l.process → has_row_at l.beginners q ≡ true
