use Rattle.chip_world.proofs.Names.{LeadsWorld, AreOpenRounds}
use Rattle.chip_world.proofs.world.World.drive.Given as goal

abbrev pub invariant-loop : goal.invariant-loop
invariant-loop l = LeadsWorld l.fn.self l.self (λ g before now. AreOpenRounds g l.counter before now)
