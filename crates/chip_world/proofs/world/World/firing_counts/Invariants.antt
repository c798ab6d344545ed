use Rattle.chip_world.proofs.Names.{◌≤◌, vec_capacity, WhateverLog, AreFired}
use Rattle.chip_world.proofs.world.World.firing_counts.Given as goal

abbrev pub invariant-loop-vertex : goal.invariant-loop-vertex
invariant-loop-vertex l = WhateverLog l.self (λ g log. AreFired g log l.vertex l.fired.items)
    × (l.vertices ≤ vec_capacity l.fired)
