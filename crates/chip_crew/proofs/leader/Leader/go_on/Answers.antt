use Rattle.chip_crew.proofs.Names.{◌≡◌, ℕ, ◌+◌, ◌≤◌, refl, arith, true, false, eq-eqb, ne_eqb, NetId, Asked, ServesTurns}
use Rattle.chip_crew.proofs.Names.{HasLed, CanLead, LeadsTurn, LeadsRound, Leader}
use Rattle.chip_crew.proofs.LeadingLemmas.{serves_turn}
use Rattle.chip_crew.proofs.leader.Leader.go_on.Goals as goal

-- one turn more
led_more : (asked : Asked) (round turns : ℕ) (old new : Leader) (has : HasLed asked round turns old)
    → turns + 1 ≤ asked.plan.turns → ServesTurns LeadsTurn LeadsRound round (turns + 1) has.first new
    → (net : NetId) → net ≡ asked.crew.net → CanLead net new → HasLed asked round (turns + 1) new
led_more asked round turns old new has few served net is can = record {
  first = has.first;
  begins = has.begins;
  is_round = has.is_round;
  some = has.some;
  at_most = few;
  served = served;
  can = rw is at can;
}

pub overflow_add-turns : goal.overflow_add-turns
overflow_add-turns g c =
    omega (arith, rw (← c.shared.invariant.plan_is) at c.shared.invariant.few_turns)

pub loop-turns-preserved : goal.loop-turns-preserved
loop-turns-preserved g c =
    let i = c.loop-turns.invariant in
    led_more g.B.Crew.asked c.args.round c.loop-turns.turns c.loop-turns.self c.begin_turn.new.self i
    (rw (← c.shared.invariant.plan_is) (omega arith))
    (serves_turn LeadsTurn LeadsRound c.args.round c.loop-turns.turns false i.first c.loop-turns.self
    c.begin_turn.new.self
    _ i.served c.begin_turn.ensures.done (ne_eqb _ 0 c.if-turns-round-eq0.false) refl) _ c.shared.invariant.net_is
    c.begin_turn.ensures.can

pub loop-turns-preserved-then-turns-round-eq0 : goal.loop-turns-preserved-then-turns-round-eq0
loop-turns-preserved-then-turns-round-eq0 g c =
    let i = c.loop-turns.invariant in
    led_more g.B.Crew.asked c.args.round c.loop-turns.turns c.loop-turns.self c.end_round.new.self i
    (rw (← c.shared.invariant.plan_is) (omega arith))
    (serves_turn LeadsTurn LeadsRound c.args.round c.loop-turns.turns true i.first c.loop-turns.self
    c.begin_turn.new.self
    _ i.served c.begin_turn.ensures.done (eq-eqb _ 0 c.if-turns-round-eq0.true) c.end_round.ensures.done) _
    c.shared.invariant.net_is c.end_round.ensures.can
