use Rattle.chip_actor.proofs.MediumLemmas.{moves_on, meets_after, whole_turn}
use Rattle.chip_actor.proofs.actor.ActorState.turn.Goals as goal

pub settle_all-settled-requires : goal.settle_all-settled-requires
settle_all-settled-requires g c = meets_after c.requires c.take_all-taken.ensures.moves

pub fire_here-fired-requires : goal.fire_here-fired-requires
fire_here-fired-requires g c = meets_after c.requires
    (moves_on c.take_all-taken.ensures.moves c.settle_all-settled.ensures.moves)

pub send_and_acknowledge-requires : goal.send_and_acknowledge-requires
send_and_acknowledge-requires g c = meets_after c.requires
    (moves_on (moves_on c.take_all-taken.ensures.moves c.settle_all-settled.ensures.moves)
    c.fire_here-fired.ensures.moves)

pub returns : goal.returns
returns g c = whole_turn (moves_on
    (moves_on (moves_on c.take_all-taken.ensures.moves c.settle_all-settled.ensures.moves)
    c.fire_here-fired.ensures.moves) c.send_and_acknowledge.ensures.moves)
