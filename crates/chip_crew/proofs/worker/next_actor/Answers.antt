use Rattle.chip_crew.proofs.Names.{arith}
use Rattle.chip_crew.proofs.PlacesLemmas.{takes}
use Rattle.chip_crew.proofs.worker.next_actor.Goals as goal

pub try_pop_as-requires-clause-rule : goal.try_pop_as-requires-clause-rule
try_pop_as-requires-clause-rule g c = takes g.B.Crew.asked.crew _ _ (let one = c.requires.has.0 in omega (arith, one))
