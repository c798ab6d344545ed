use Rattle.chip_net.proofs.Names.{refl, Take}
use Rattle.chip_net.proofs.ActingLemmas.{may_step, serves}
use Rattle.chip_net.proofs.net_words.NetWordsMedium.take.Goals as goal

pub swap-count-requires : goal.swap-count-requires
swap-count-requires g c = may_step c.requires c.cell_word-cell.ensures Take refl _

pub returns : goal.returns
returns g c = serves c.cell_word-cell.ensures Take refl c.swap-count.result c.swap-count.ensures.2
    c.swap-count.ensures.0 c.note_take.ensures.room c.note_take.ensures.keeps
