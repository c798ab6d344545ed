use Rattle.chip_log.proofs.Names.{◌≡◌, ℕ, ◌<◌, false, is_busy}
use Rattle.chip_log.proofs.judge.first_busy.Given as goal

abbrev pub invariant-loop-process : goal.invariant-loop-process
invariant-loop-process l = (q : ℕ) → q < l.process → is_busy l.beginners l.books q ≡ false
