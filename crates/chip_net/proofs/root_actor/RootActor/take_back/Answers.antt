use Rattle.chip_net.proofs.Names.{◌≡◌, stopper, IsAlone}
use Rattle.chip_net.proofs.ViewingLemmas.{alone_by, did_alone}
use Rattle.chip_net.proofs.RootingLemmas.{takes_back, has_both}
use Rattle.chip_net.proofs.root_actor.RootActor.take_back.Goals.{After-into_seat}
use Rattle.chip_net.proofs.root_actor.RootActor.take_back.Goals as goal

-- the stopper is of the root's net
here : (c : After-into_seat) → c.args.stopper.net.setting ≡ c.self.inside.setting.value
here c = rw (c.requires.stopper, ← c.requires.net, ← c.self.view_is)

-- its seat has only its part
alone_is : (c : After-into_seat) → IsAlone (stopper c.self.inside.setting.value) c.into_seat.result.me.0
alone_is c = rw (here c) at
    (alone_by (stopper c.args.stopper.net.setting) c.into_seat.result.me.0 c.args.stopper.did c.into_seat.ensures.part)

pub take_in-requires-clause-part : goal.take_in-requires-clause-part
take_in-requires-clause-part c =
    (stopper c.self.inside.setting.value, alone_is (goal.at.take_in-requires-clause-part c).After-into_seat)

pub invariant_of-self : goal.invariant_of-self
invariant_of-self c = rw c.take_in.ensures.joined (takes_back c.self.inside.setting.value
    (alone_is (goal.at.invariant_of-self c).After-into_seat) c.self.inside.seat.me.0 c.self.invariant)

pub returns : goal.returns
returns c =
    let d = (goal.at.returns c).After-into_seat in
    let did = rw (here d) at (did_alone (stopper c.args.stopper.net.setting) c.into_seat.result.me.0 c.args.stopper.did
    c.into_seat.ensures.part) in
    rw (c.take_in.ensures.same, c.take_in.ensures.joined, ← c.self.view_is)
    (has_both c.self.inside.setting.value (alone_is d) c.self.inside.seat.me.0 c.self.inside.seat.table_id
    c.args.stopper.did did)
