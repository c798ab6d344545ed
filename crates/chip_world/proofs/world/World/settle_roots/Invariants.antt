use Rattle.chip_world.proofs.Names.{◌≡◌, log_after, LeadsWorld, root_settles}
use Rattle.chip_world.proofs.world.World.settle_roots.Given as goal

abbrev pub invariant-loop-vertex : goal.invariant-loop-vertex
invariant-loop-vertex l = LeadsWorld l.fn.self l.self (λ g before now. now ≡ log_after g before (root_settles g l.vertex))
