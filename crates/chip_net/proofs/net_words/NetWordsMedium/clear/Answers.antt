use Rattle.chip_net.proofs.Names.{refl, Clear}
use Rattle.chip_net.proofs.ActingLemmas.{may_step, serves, keeps_none}
use Rattle.chip_net.proofs.net_words.NetWordsMedium.clear.Goals as goal

pub load-requires : goal.load-requires
load-requires g c = may_step c.requires c.cell_word-cell.ensures Clear refl _

pub returns : goal.returns
returns g c = serves c.cell_word-cell.ensures Clear refl c.load.result c.load.ensures.2 c.load.ensures.0 refl
    (keeps_none _)
