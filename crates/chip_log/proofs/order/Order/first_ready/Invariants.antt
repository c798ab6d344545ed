use Rattle.chip_log.proofs.Names.{◌≡◌, ℕ, ◌<◌, false, is_there, IsNextStep, Step}
use Rattle.chip_log.proofs.order.Order.first_ready.Given as goal

abbrev pub invariant-loop-process : goal.invariant-loop-process
invariant-loop-process l = (q : ℕ) → q < l.process → (step : Step) → IsNextStep l.self q step
    → is_there l.self.flight step ≡ false
