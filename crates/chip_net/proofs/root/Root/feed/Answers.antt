use Rattle.chip_net.proofs.Names.{◌≡◌, sym, ◌∙◌, no_readings, NetId}
use Rattle.chip_net.proofs.SendingLemmas.{MayFeed, look_due, look_done, due2, due3, free1, free3, feeds}
use Rattle.chip_net.proofs.root.Root.feed.Goals.{In_ok-may_feed}
use Rattle.chip_net.proofs.root.Root.feed.Goals as goal

view_is : (c : In_ok-may_feed) → c.deref_mut-actor.result.now ≡ c.args.self.now
view_is c = c.deref_mut-actor.ensures.value ∙ c.self.view_is

may : (c : In_ok-may_feed) → MayFeed c.deref_mut-actor.result.now c.args.vertex c.root_edge-edge.result c.args.count
may c = record {
  inside = rw (view_is c) c.requires.vertex;
  edge_is = rw (c.root_edge-edge.ensures.value, c.setting.ensures.value, view_is c, c.requires.net);
  free = rw c.deref_mut-actor.ensures.value c.self.invariant.0;
  some = c.requires.count;
  not_ended = c.in_ok-may_feed.ensures.0;
  few = c.in_ok-may_feed.ensures.1;
  given = c.in_ok-may_feed.ensures.2;
}

-- there is the same room as before
room : (c : In_ok-may_feed) (n : NetId) → n ≡ c.deref_mut-actor.result.now.net
    → c.self.inside.readings.value ≡ no_readings n.setting.game.graph.vertices
room c n same = rw (same, c.deref_mut-actor.ensures.value) c.self.invariant.1

pub make-requires-clause-due : goal.make-requires-clause-due
make-requires-clause-due c = look_due (may (goal.at.make-requires-clause-due c).In_ok-may_feed)

pub invariant_of-self-in_default : goal.invariant_of-self-in_default
invariant_of-self-in_default c =
    let d = (goal.at.invariant_of-self-in_default c).In_ok-may_feed in
    (free1 (may d) c.make.ensures.made, room d c.make.new.self.net (rw c.make.ensures.made.record_is))

-- the look saw an empty cell, and returned the place
pub make-requires-2-clause-due : goal.make-requires-2-clause-due
make-requires-2-clause-due c = due2 (may (goal.at.make-requires-2-clause-due c).In_ok-may_feed) c.make.ensures.made
    (look_done _ _ c.in-Done.place (sym c.in-Done.is ∙ c.make.ensures.reply_is)).0

pub make-requires-3-clause-due : goal.make-requires-3-clause-due
make-requires-3-clause-due c = due3 (may (goal.at.make-requires-3-clause-due c).In_ok-may_feed) c.make.ensures.made
    (look_done _ _ c.in-Done.place (sym c.in-Done.is ∙ c.make.ensures.reply_is)).0 c.make-2.ensures.made

pub invariant_of-self-2 : goal.invariant_of-self-2
invariant_of-self-2 c =
    let d = (goal.at.invariant_of-self-2 c).In_ok-may_feed in (
      free3 (may d) c.make.ensures.made (look_done _ _ c.in-Done.place (sym c.in-Done.is ∙ c.make.ensures.reply_is)).0
          c.make-2.ensures.made c.make-3.ensures.made,
      room d c.make-3.new.self.net
          (rw (c.make-3.ensures.made.record_is, c.make-2.ensures.made.record_is, c.make.ensures.made.record_is)),
    )

pub returns-clause-cases : goal.returns-clause-cases
returns-clause-cases c =
    let d = (goal.at.returns-clause-cases c).In_ok-may_feed in
    let looked = look_done _ _ c.in-Done.place (sym c.in-Done.is ∙ c.make.ensures.reply_is) in
    rw (view_is d) at
    (feeds (may d) c.make.ensures.made looked.0 c.make-2.ensures.made c.make-3.ensures.made c.in-Done.place looked.1)
