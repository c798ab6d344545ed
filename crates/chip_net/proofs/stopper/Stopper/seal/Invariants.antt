use Rattle.chip_net.proofs.Names.{Seal}
use Rattle.chip_net.proofs.LayingLemmas.{by_word}
use Rattle.chip_net.proofs.stopper.Stopper.seal.Given as goal

abbrev pub ghosts-fetch_or : goal.ghosts-fetch_or
ghosts-fetch_or a = record { then = λ _. by_word Seal a.self.now.key.value a.word }
