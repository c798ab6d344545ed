use Rattle.chip_net.proofs.Names.{Take}
use Rattle.chip_net.proofs.LayingLemmas.{by_word}
use Rattle.chip_net.proofs.net_words.NetWordsMedium.take.Given as goal

abbrev pub ghosts-swap : goal.ghosts-swap
ghosts-swap g a = record { then = λ _. by_word Take a.self.now.key.value a.word }
