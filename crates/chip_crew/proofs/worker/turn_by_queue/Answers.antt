use Rattle.chip_crew.proofs.Names.{◌≡◌, [], rules, IfSome, Result, Ok, Err, MatchResult, result_err}
use Rattle.chip_crew.proofs.Names.{ActorKnown, CrewId, IsOurs}
use Rattle.chip_crew.proofs.PlacesLemmas.{puts}
use Rattle.chip_crew.proofs.DealingLemmas.{still_ours}
use Rattle.chip_crew.proofs.worker.turn_by_queue.Goals as goal

-- an actor that is not pushed is unchanged
back_ours : (crew : CrewId) (a : ActorKnown) (r : Result (Unit {0}) ActorKnown) → IsOurs crew a → (P : Unit {0} → Type 0)
    (Q : ActorKnown → Type 0) → MatchResult r P (λ x. (x ≡ a) × Q x) → IfSome (result_err r) (IsOurs crew)
back_ours crew a (Ok done) ours P Q back = tt
back_ours crew a (Err x) ours P Q back = rw back.0 ours

pub try_push_as-back-requires-clause-rule : goal.try_push_as-back-requires-clause-rule
try_push_as-back-requires-clause-rule g c =
    let ours : IsOurs g.B.Crew.asked.crew c.in-Some.actor = search rules in
    puts g.B.Crew.asked.crew _ _ _ _ [] (still_ours g.B.Crew.asked.crew c.in-Some.actor _ _ c.turn-turn.ensures.turn ours)
    (rw (← c.turn-turn.ensures.same.1) at (rw c.in-Some.is at c.next_actor.ensures.has.1))

pub returns-clause-kept : goal.returns-clause-kept
returns-clause-kept g c =
    let ours : IsOurs g.B.Crew.asked.crew c.in-Some.actor = search rules in
    let still = still_ours g.B.Crew.asked.crew c.in-Some.actor _ _ c.turn-turn.ensures.turn ours in
    rw c.err.ensures.value (back_ours g.B.Crew.asked.crew c.turn-turn.new.self c.try_push_as-back.result still _ _
    c.try_push_as-back.ensures.rule)
