use Rattle.chip_net.proofs.Names.{Clear}
use Rattle.chip_net.proofs.LayingLemmas.{by_word}
use Rattle.chip_net.proofs.net_words.NetWordsMedium.clear.Given as goal

abbrev pub ghosts-load : goal.ghosts-load
ghosts-load g a = record { then = λ _. by_word Clear a.self.now.key.value a.word }
