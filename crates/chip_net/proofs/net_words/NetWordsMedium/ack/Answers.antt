use Rattle.chip_net.proofs.Names.{refl, Ack}
use Rattle.chip_net.proofs.ActingLemmas.{may_step, serves, keeps_none}
use Rattle.chip_net.proofs.net_words.NetWordsMedium.ack.Goals as goal

pub fetch_add-requires : goal.fetch_add-requires
fetch_add-requires g c = may_step c.requires c.acks_word-acks.ensures Ack refl _

pub returns : goal.returns
returns g c = serves c.acks_word-acks.ensures Ack refl c.fetch_add.result c.fetch_add.ensures.2 c.fetch_add.ensures.0
    refl (keeps_none _)
