use Rattle.chip_net.proofs.Names.{ap, TurnSetup}
use Rattle.chip_net.proofs.TurningLemmas.{may_turn, still, turned, still_actor}
use Rattle.chip_net.proofs.actor.turn_over.Goals as goal

pub turn-requires : goal.turn-requires
turn-requires g c = let r = c.requires in may_turn c.args.state.now r.setup r.words r.vertex r.table r.actor

pub returns : goal.returns
returns g c =
    let r = c.requires in
    let same = still c.args.state.now r.setup r.words r.vertex r.table r.actor c.turn.ensures in record {
      seat = ap (λ (n : TurnSetup). n.seat) same;
      trace = ap (λ (n : TurnSetup). n.trace) same;
      turn = turned c.args.state.now r.setup r.words r.vertex r.table r.actor c.turn.ensures;
      actor = still_actor c.args.state.now r.setup r.words r.vertex r.table r.actor c.turn.ensures;
    }
