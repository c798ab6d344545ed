use Rattle.chip_net.proofs.Names.{refl, Put}
use Rattle.chip_net.proofs.ActingLemmas.{may_step, serves, keeps_none}
use Rattle.chip_net.proofs.net_words.NetWordsMedium.put.Goals as goal

pub store-requires : goal.store-requires
store-requires g c = may_step c.requires c.cell_word-cell.ensures Put refl _

pub returns : goal.returns
returns g c = serves c.cell_word-cell.ensures Put refl c.args.value c.store.ensures.2 c.store.ensures.0 refl
    (keeps_none _)
