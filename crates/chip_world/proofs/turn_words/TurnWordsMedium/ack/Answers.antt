use Rattle.chip_world.proofs.Names.{refl}
use Rattle.chip_world.proofs.TurnWordLemmas.{finds_some, serves}
use Rattle.chip_part.specs.declared.act.Act.TheVariants as Do
use Rattle.chip_world.proofs.turn_words.TurnWordsMedium.ack.Goals as goal

pub acknowledge-requires-clause-edge : goal.acknowledge-requires-clause-edge
acknowledge-requires-clause-edge c = (finds_some c.args.self.now (Do.Ack c.args.edge c.args.count) c.requires).0

pub acknowledge-requires-clause-room : goal.acknowledge-requires-clause-room
acknowledge-requires-clause-room c = (finds_some c.args.self.now (Do.Ack c.args.edge c.args.count) c.requires).1

pub returns : goal.returns
returns c = serves c.args.self.now _ (Do.Ack c.args.edge c.args.count) _ c.acknowledge.ensures.seen
    c.acknowledge.ensures.after refl (λ g v seen s. refl)
