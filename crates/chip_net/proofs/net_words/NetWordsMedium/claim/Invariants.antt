use Rattle.chip_net.proofs.Names.{Claim}
use Rattle.chip_net.proofs.LayingLemmas.{by_word}
use Rattle.chip_net.proofs.net_words.NetWordsMedium.claim.Given as goal

abbrev pub ghosts-compare_exchange : goal.ghosts-compare_exchange
ghosts-compare_exchange g a = record { then = λ _. by_word Claim a.self.now.key.value a.word }
