use Rattle.chip_net.proofs.Names.{Halt}
use Rattle.chip_net.proofs.LayingLemmas.{by_word}
use Rattle.chip_net.proofs.net_words.NetWordsMedium.halt.Given as goal

abbrev pub ghosts-fetch_or : goal.ghosts-fetch_or
ghosts-fetch_or g a = record { then = λ _. by_word Halt a.self.now.key.value a.word }
