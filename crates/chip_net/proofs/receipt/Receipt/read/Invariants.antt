use Rattle.chip_net.proofs.Names.{Read}
use Rattle.chip_net.proofs.LayingLemmas.{by_word}
use Rattle.chip_net.proofs.receipt.Receipt.read.Given as goal

abbrev pub ghosts-load : goal.ghosts-load
ghosts-load a = record { then = λ _. by_word Read a.self.now.key.value a.word }
