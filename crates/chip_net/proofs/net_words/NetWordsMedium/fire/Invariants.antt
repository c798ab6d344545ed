use Rattle.chip_net.proofs.Names.{Fire}
use Rattle.chip_net.proofs.LayingLemmas.{by_word}
use Rattle.chip_net.proofs.net_words.NetWordsMedium.fire.Given as goal

abbrev pub ghosts-fetch_add : goal.ghosts-fetch_add
ghosts-fetch_add g a = record { then = λ _. by_word (λ u. Fire u a.k) a.self.now.key.value a.word }
