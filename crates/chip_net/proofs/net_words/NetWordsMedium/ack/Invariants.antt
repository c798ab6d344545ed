use Rattle.chip_net.proofs.Names.{Ack}
use Rattle.chip_net.proofs.LayingLemmas.{by_word}
use Rattle.chip_net.proofs.net_words.NetWordsMedium.ack.Given as goal

abbrev pub ghosts-fetch_add : goal.ghosts-fetch_add
ghosts-fetch_add g a = record { then = λ _. by_word Ack a.self.now.key.value a.word }
