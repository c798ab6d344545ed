use Rattle.std.proofs.Common.{◌≡◌, List, ◌++◌, false, length, string_bytes}
use Rattle.chip_core.specs.Core.{Event}
use Rattle.chip_engine.proofs.ScheduleLemmas.{HasRun}
use Rattle.chip_engine.proofs.simulate.stretch_by_stretch.Given as goal

abbrev pub invariant-loop-left : goal.invariant-loop-left
invariant-loop-left l = (done : List Event) × (l.events ≡ done ++ l.left) × HasRun false l.fn.world.setting done l.world (string_bytes l.lines)

abbrev pub decreases-loop-left : goal.decreases-loop-left
decreases-loop-left l = length l.left
