use Rattle.std.proofs.Common.{◌+◌, ◌*◌}
use Rattle.chip_fire.specs.Rounds.{IsSwept}
use Rattle.chip_fire.proofs.rounds.sweep.Given as goal

abbrev pub invariant-loop-step : goal.invariant-loop-step
invariant-loop-step l =
    IsSwept l.graph l.limit l.first l.fn.chips l.fn.fired l.chips l.fired l.count (l.first + 2 * l.step)
