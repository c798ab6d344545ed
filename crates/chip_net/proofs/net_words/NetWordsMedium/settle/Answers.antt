use Rattle.chip_net.proofs.Names.{refl, Settle}
use Rattle.chip_net.proofs.ActingLemmas.{may_step, serves, keeps_none}
use Rattle.chip_net.proofs.net_words.NetWordsMedium.settle.Goals as goal

pub load-requires : goal.load-requires
load-requires g c = may_step c.requires c.acks_word-acks.ensures Settle refl _

pub returns : goal.returns
returns g c = serves c.acks_word-acks.ensures Settle refl c.load.result c.load.ensures.2 c.load.ensures.0 refl
    (keeps_none _)
