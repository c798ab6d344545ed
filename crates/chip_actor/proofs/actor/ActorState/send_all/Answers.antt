use Rattle.chip_actor.proofs.Names.{◌≡◌, ℕ, Option, Some, None, MatchOption, refl, Actor, with_sent, Moves, the_view}
use Rattle.chip_actor.proofs.MediumLemmas.{DueBy, may_serve, can_do, moves_one, moves_on, meets_after}
use Rattle.chip_actor.proofs.SendLemmas.{stop_due}
use Rattle.chip_actor.proofs.actor.ActorState.send_all.Goals.{After-send_all-sent, After-is_by_limit}
use Rattle.chip_actor.proofs.actor.ActorState.send_all.Given.{Over}
use Rattle.chip_part.specs.declared.act.Act.TheVariants as Do
use Rattle.chip_part.specs.declared.cursor.Cursor.TheVariants as At
use Rattle.chip_actor.proofs.actor.ActorState.send_all.Goals as goal

pub send_all-sent-requires : goal.send_all-sent-requires
send_all-sent-requires g c = (
  the_view c.self.inside,
  rw (← c.self.view_is) at c.requires,
)

-- the actor after the sends
abbrev after : (g : Over) (c : After-send_all-sent g) → Actor
after g c = with_sent (the_view c.self.inside) c.send_all-sent.new.self c.send_all-sent.new.pending
    c.send_all-sent.new.refused c.send_all-sent.new.detect

moved : (g : Over) (c : After-send_all-sent g) (o : Option ℕ) → c.send_all-sent.result.1 ≡ o
    → MatchOption o
    (Moves (g.M.Medium.holds c.args.medium.now) c.args.self.now (At.Send 0)
    (g.M.Medium.holds c.send_all-sent.new.medium) (after g c) At.Limit c.send_all-sent.result.0)
    (λ index. Moves (g.M.Medium.holds c.args.medium.now) c.args.self.now (At.Send 0)
    (g.M.Medium.holds c.send_all-sent.new.medium) (after g c) (At.Store index) c.send_all-sent.result.0)
moved g c o is = rw (← c.self.view_is, ← is)
    (c.send_all-sent.ensures.moves (the_view c.self.inside) (rw (← c.self.view_is) at c.requires))

pub returns-in_default-clause-moves : goal.returns-in_default-clause-moves
returns-in_default-clause-moves g c =
    moved g (goal.at.returns-in_default-clause-moves g c).After-send_all-sent None c.in_default.is

-- the halt is due after a refusal
due : (g : Over) (c : After-is_by_limit g) → DueBy
    (with_sent (the_view c.self.inside) c.send_all-sent.new.self c.send_all-sent.new.pending
    c.send_all-sent.new.refused c.send_all-sent.new.detect) (At.Store c.in-Some._index) (Do.Halt c.is_by_limit.result)
    At.Limit
due g c = stop_due
    (rw c.in-Some.is at c.send_all-sent.ensures.refusal)
    (λ h s stands. rw (c.is_by_limit.ensures, c.cause.ensures h s stands) refl)

pub halt-seen-requires : goal.halt-seen-requires
halt-seen-requires g c =
    let at = goal.at.halt-seen-requires g c in
    may_serve (meets_after c.requires (moved g at.After-send_all-sent (Some c.in-Some._index) c.in-Some.is))
    (due g at.After-is_by_limit)

pub stop-requires : goal.stop-requires
stop-requires g c =
    let at = goal.at.stop-requires g c in
    can_do (meets_after c.requires (moved g at.After-send_all-sent (Some c.in-Some._index) c.in-Some.is))
    (due g at.After-is_by_limit) c.halt-seen.ensures

pub returns-clause-moves : goal.returns-clause-moves
returns-clause-moves g c =
    let at = goal.at.returns-clause-moves g c in
    moves_on (moved g at.After-send_all-sent (Some c.in-Some._index) c.in-Some.is)
    (moves_one (due g at.After-is_by_limit) c.halt-seen.ensures c.stop.ensures refl)
