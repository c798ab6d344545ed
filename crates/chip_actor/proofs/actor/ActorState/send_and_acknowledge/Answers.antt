use Rattle.chip_actor.proofs.Names.{◌∙◌, sym, Moves}
use Rattle.chip_actor.proofs.MediumLemmas.{moves_on, meets_after, then_over, over_then}
use Rattle.chip_actor.proofs.TurnOverLemmas.{nothing_before, no_limit, nothing_owed}
use Rattle.chip_actor.proofs.actor.ActorState.send_and_acknowledge.Goals.{After-send_all-sent}
use Rattle.chip_actor.proofs.actor.ActorState.send_and_acknowledge.Given.{Over}
use Rattle.chip_part.specs.declared.cursor.Cursor.TheVariants as At
use Rattle.chip_actor.proofs.actor.ActorState.send_and_acknowledge.Goals as goal

pub send_all-sent-requires : goal.send_all-sent-requires
send_all-sent-requires g c = meets_after c.requires (nothing_before {H = g.M.Medium.holds c.args.medium.now}
    {a = c.args.self.now} (sym c.may_send.ensures ∙ c.if-not-may_send.false))

-- the sends
sent : (g : Over) (c : After-send_all-sent g) → Moves (g.M.Medium.holds c.args.medium.now) c.args.self.now (At.Put 0)
    (g.M.Medium.holds c.send_all-sent.new.medium) c.send_all-sent.new.self At.Limit c.send_all-sent.result
sent g c = over_then (nothing_before (sym c.may_send.ensures ∙ c.if-not-may_send.false)) c.send_all-sent.ensures.moves

pub finish-requires-then-is_at_limit : goal.finish-requires-then-is_at_limit
finish-requires-then-is_at_limit g c =
    meets_after c.requires (sent g (goal.at.finish-requires-then-is_at_limit g c).After-send_all-sent)

pub returns-then-is_at_limit-clause-moves : goal.returns-then-is_at_limit-clause-moves
returns-then-is_at_limit-clause-moves g c = moves_on
    (sent g (goal.at.returns-then-is_at_limit-clause-moves g c).After-send_all-sent)
    c.finish-then-is_at_limit.ensures.moves

pub returns-then-not-engaged-clause-moves : goal.returns-then-not-engaged-clause-moves
returns-then-not-engaged-clause-moves g c = then_over
    (sent g (goal.at.returns-then-not-engaged-clause-moves g c).After-send_all-sent)
    (then_over (no_limit (λ h s stands. sym c.if-is_at_limit.false ∙ c.is_at_limit.ensures h s stands))
    (nothing_owed (rw (← c.self.view_is, ← c.engaged.ensures) c.if-not-engaged.true)))

pub ack_all-acked-requires-clause-meets : goal.ack_all-acked-requires-clause-meets
ack_all-acked-requires-clause-meets g c = meets_after c.requires
    (then_over (sent g (goal.at.ack_all-acked-requires-clause-meets g c).After-send_all-sent)
    (no_limit (λ h s stands. sym c.if-is_at_limit.false ∙ c.is_at_limit.ensures h s stands)))

pub ack_parent-requires-clause-meets : goal.ack_parent-requires-clause-meets
ack_parent-requires-clause-meets g c = meets_after c.requires
    (moves_on (then_over (sent g (goal.at.ack_parent-requires-clause-meets g c).After-send_all-sent)
    (no_limit (λ h s stands. sym c.if-is_at_limit.false ∙ c.is_at_limit.ensures h s stands)))
    c.ack_all-acked.ensures.moves)

pub returns-clause-moves : goal.returns-clause-moves
returns-clause-moves g c = moves_on
    (moves_on (then_over (sent g (goal.at.returns-clause-moves g c).After-send_all-sent)
    (no_limit (λ h s stands. sym c.if-is_at_limit.false ∙ c.is_at_limit.ensures h s stands)))
    c.ack_all-acked.ensures.moves) c.ack_parent.ensures.moves
