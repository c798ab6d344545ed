use Rattle.std.proofs.Common.{◌≡◌, ◌≤◌}
use Rattle.chip_actor.specs.Root.{with_chips}
use Rattle.chip_actor.proofs.root.with_chips.Given as goal

abbrev pub invariant-loop-chips : goal.invariant-loop-chips
invariant-loop-chips l = (l.count ≡ with_chips l.start l.chips-index) × (l.count ≤ l.chips-index)
