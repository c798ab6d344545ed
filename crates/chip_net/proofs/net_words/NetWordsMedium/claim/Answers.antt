use Rattle.chip_net.proofs.Names.{refl, Claim}
use Rattle.chip_net.proofs.ActingLemmas.{may_step, serves, keeps_none}
use Rattle.chip_net.proofs.net_words.NetWordsMedium.claim.Goals as goal

pub compare_exchange-requires : goal.compare_exchange-requires
compare_exchange-requires g c = may_step c.requires c.edge_word-word.ensures Claim refl _

pub returns : goal.returns
returns g c = serves c.edge_word-word.ensures Claim refl c.compare_exchange.result c.compare_exchange.ensures.2
    c.compare_exchange.ensures.0 refl (keeps_none _)
