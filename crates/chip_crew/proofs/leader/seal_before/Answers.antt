use Rattle.chip_crew.proofs.Names.{refl, arith, append-nil, nat_tests}
use Rattle.chip_crew.proofs.leader.seal_before.Goals as goal

pub returns-else-at-turn : goal.returns-else-at-turn
returns-else-at-turn c = rw c.in-Some.is (c.in-Some.stopper.did, refl, grind (arith, nat_tests, append-nil))
