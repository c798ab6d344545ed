use Rattle.chip_world.proofs.Names.{◌≤◌, vec_capacity, AreOpeningActors}
use Rattle.chip_world.proofs.world.opening_actors.Given as goal

abbrev pub invariant-loop-vertex : goal.invariant-loop-vertex
invariant-loop-vertex l = AreOpeningActors l.setting l.vertex l.actors.items × (l.vertices ≤ vec_capacity l.actors)
