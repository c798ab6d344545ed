use Rattle.chip_net.proofs.Names.{Settle}
use Rattle.chip_net.proofs.LayingLemmas.{by_word}
use Rattle.chip_net.proofs.root_actor.RootActor.settle.Given as goal

abbrev pub ghosts-load : goal.ghosts-load
ghosts-load a = record { then = λ _. by_word Settle a.self.now.key.value a.word }
