use Rattle.chip_net.proofs.Names.{refl, Fire}
use Rattle.chip_net.proofs.ActingLemmas.{may_step, serves}
use Rattle.chip_net.proofs.net_words.NetWordsMedium.fire.Goals as goal

pub fetch_add-before-requires : goal.fetch_add-before-requires
fetch_add-before-requires g c = may_step c.requires c.fired_word-word.ensures (λ u. Fire u c.args.k) refl _

pub returns : goal.returns
returns g c = serves c.fired_word-word.ensures (λ u. Fire u c.args.k) refl c.fetch_add-before.result
    c.fetch_add-before.ensures.2 c.fetch_add-before.ensures.0 c.note.ensures.room c.note.ensures.keeps
