use Rattle.chip_net.proofs.Names.{◌≡◌, ◌<◌, refl, arith, root_edge}
use Rattle.chip_net.proofs.Names.{root_part, AllowsFeed, the_view}
use Rattle.chip_net.proofs.FeedingLemmas.{feed_answer, allows_feed, given_is_fed}
use Rattle.chip_net.proofs.root_actor.RootActor.may_feed.Goals.{After-may}
use Rattle.chip_net.proofs.root_actor.RootActor.may_feed.Goals as goal

allowed : (c : After-may) → AllowsFeed c.args.self.now c.args.count (feed_answer c.may.result)
allowed c =
    let own = c.self.inside.setting.value in
    let edge : c.args.edge ≡ root_edge own c.args.vertex = rw (← c.self.view_is) at c.requires.edge in
    let below : c.args.vertex < own.game.graph.vertices = rw (← c.self.view_is) at c.requires.vertex in
    let some = c.requires.count in
    rw (← c.self.view_is, c.may.ensures own (root_part (the_view c.self.inside)) c.self.invariant.stands refl)
    (allows_feed (the_view c.self.inside) c.args.count (given_is_fed c.self.invariant) c.args.edge
    (omega arith) (omega arith) (omega arith) _)

pub returns-in_default : goal.returns-in_default
returns-in_default c = rw c.in_default.is at (allowed (goal.at.returns-in_default c).After-may)

pub returns-in-Some : goal.returns-in-Some
returns-in-Some c =
    rw (c.in-Err.is, ← c.fault_of.ensures, c.in-Some.is) at (allowed (goal.at.returns-in-Some c).After-may)

pub returns-in-None : goal.returns-in-None
returns-in-None c =
    rw (c.in-Err.is, ← c.fault_of.ensures, c.in-None.is) at (allowed (goal.at.returns-in-None c).After-may)
