use Rattle.chip_net.proofs.Names.{refl, Halt}
use Rattle.chip_net.proofs.ActingLemmas.{may_step, serves, keeps_none}
use Rattle.chip_net.proofs.net_words.NetWordsMedium.halt.Goals as goal

pub fetch_or-requires : goal.fetch_or-requires
fetch_or-requires g c = rw c.halt_bits-bits.ensures (may_step c.requires c.fired_word-word.ensures Halt refl _)

pub returns : goal.returns
returns g c = serves c.fired_word-word.ensures Halt refl c.fetch_or.result c.fetch_or.ensures.2 c.fetch_or.ensures.0
    refl (keeps_none _)
