use Rattle.chip_world.proofs.Names.{LeadsWorld, AreTurns}
use Rattle.chip_world.proofs.world.World.turns.Given as goal

abbrev pub invariant-loop-vertex : goal.invariant-loop-vertex
invariant-loop-vertex l = LeadsWorld l.fn.self l.self (λ g before now. AreTurns g l.vertex before now)
