use Rattle.chip_net.proofs.Names.{Put}
use Rattle.chip_net.proofs.LayingLemmas.{by_word}
use Rattle.chip_net.proofs.net_words.NetWordsMedium.put.Given as goal

abbrev pub ghosts-store : goal.ghosts-store
ghosts-store g a = record { then = λ _. by_word Put a.self.now.key.value a.word }
