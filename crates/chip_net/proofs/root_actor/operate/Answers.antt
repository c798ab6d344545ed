use Rattle.chip_net.proofs.Names.{refl, subst, IsDueInView}
use Rattle.chip_net.proofs.RootingLemmas.{feeding_asked, store_asked}
use Rattle.chip_net.proofs.root_actor.operate.Goals as goal

pub load-requires : goal.load-requires
load-requires g c = feeding_asked c.words-words.ensures c.args.seat.now.me
    (subst (IsDueInView c.args.net.now.setting c.args.seat.now.me.0 g.J.Making.event) c.in-Settle.is c.requires.due)
    c.setting-setting.ensures.value c.acks_word.ensures c.requires.table _

pub load-requires-in-Clear : goal.load-requires-in-Clear
load-requires-in-Clear g c = feeding_asked c.words-words.ensures c.args.seat.now.me
    (subst (IsDueInView c.args.net.now.setting c.args.seat.now.me.0 g.J.Making.event) c.in-Clear.is c.requires.due)
    c.setting-setting.ensures.value c.cell_word.ensures c.requires.table _

pub compare_exchange-requires : goal.compare_exchange-requires
compare_exchange-requires g c = feeding_asked c.words-words.ensures c.args.seat.now.me
    (subst (IsDueInView c.args.net.now.setting c.args.seat.now.me.0 g.J.Making.event) c.in-Claim.is c.requires.due)
    c.setting-setting.ensures.value c.edge_word.ensures c.requires.table _

pub store-requires : goal.store-requires
store-requires g c = store_asked c.words-words.ensures c.args.seat.now.me
    (subst (IsDueInView c.args.net.now.setting c.args.seat.now.me.0 g.J.Making.event) c.in-Put.is c.requires.due)
    c.setting-setting.ensures.value c.cell_word-in-Put.ensures c.requires.table _ c.in-Put.value (λ n. refl)
