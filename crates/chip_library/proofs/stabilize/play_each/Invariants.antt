use Rattle.std.proofs.Common.{◌≡◌, ◌*◌, drop}
use Rattle.chip_library.specs.Batch.{ArePlayed}
use Rattle.chip_library.proofs.stabilize.play_each.Given as goal

abbrev pub invariant-loop-number : goal.invariant-loop-number
invariant-loop-number g l =
    (l.graph ≡ l.fn.graph) × (l.rest ≡ drop (l.number * l.fn.graph.vertices) l.chips)
    × ArePlayed l.fn.graph l.limit l.chips l.number
    (record { chips = l.ends.chips.items; fired = l.ends.fired.items; stopped = l.ends.stopped.items })
