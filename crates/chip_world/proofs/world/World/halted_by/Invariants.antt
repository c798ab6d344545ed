use Rattle.chip_world.proofs.Names.{◌≡◌, WhateverLog, halted_by}
use Rattle.chip_world.proofs.world.World.halted_by.Given as goal

abbrev pub invariant-loop-vertex : goal.invariant-loop-vertex
invariant-loop-vertex l = WhateverLog l.self (λ g log. l.halted.items ≡ halted_by g log l.cause l.vertex)
