use Rattle.chip_crew.proofs.Names.{◌≡◌, ◌<◌, length, ap, arith, [], ◌∷◌, length-append, rules, length-map}
use Rattle.chip_crew.proofs.Names.{All-cons, All-nil, sum_by_push, Held, view, ActorKnown, IsOurs, turns_of}
use Rattle.chip_crew.proofs.Names.{with_actor, AreAllThere}
use Rattle.chip_crew.proofs.PlacesLemmas.{takes, all_there, none_queued}
use Rattle.chip_crew.proofs.GatheringLemmas.{gathers_more, gathered}
use Rattle.chip_crew.proofs.gathering.drain.Goals as goal

pub pop_as-requires-clause-rule : goal.pop_as-requires-clause-rule
pop_as-requires-clause-rule g c = (
  takes g.B.Crew.asked.crew _ _ (omega arith),
  all_there g.B.Crew.asked.crew _ _,
)

pub push_reserved-requires : goal.push_reserved-requires
push_reserved-requires g c =
    let few : length (view c.loop-actor.pass).has < g.B.Crew.asked.crew.net.setting.game.graph.vertices = search rules in
    let has = ap length c.loop-actor.invariant.gathers.has in
    let same = length-map c.loop-actor.row.items (λ (a : ActorKnown). a.vertex) in omega arith

pub loop-actor-preserved : goal.loop-actor-preserved
loop-actor-preserved g c =
    let i = c.loop-actor.invariant.gathers in
    let a = c.in-Some.actor in
    let workers = g.B.Crew.asked.crew.workers in
    let told : view c.pop_as.new.pass ≡ with_actor (view c.loop-actor.pass) a = search rules in
    let ours : IsOurs g.B.Crew.asked.crew a = search rules in
    record {
      pass = search rules;
      gathers = gathers_more g.B.Crew.asked (view c.loop-actor.pass) (view c.pop_as.new.pass) c.loop-actor.row
          c.push_reserved.new.self (a ∷ []) workers workers i c.push_reserved.ensures.items
          (All-cons (IsOurs g.B.Crew.asked.crew) a [] ours (All-nil (IsOurs g.B.Crew.asked.crew))) (search rules)
          (rw told i.speaks) (rw told (cc))
          (rw told (omega (arith, sum_by_push turns_of)));
    }

pub loop-actor-smaller : goal.loop-actor-smaller
loop-actor-smaller g c =
    let few : length (view c.loop-actor.pass).has < g.B.Crew.asked.crew.net.setting.game.graph.vertices = search rules in
    let has = ap length c.loop-actor.invariant.gathers.has in let now = ap length c.push_reserved.ensures.items in
    let same = length-map c.loop-actor.row.items (λ (a : ActorKnown). a.vertex) in
    omega (arith, length-append {A = ActorKnown})

pub returns : goal.returns
returns g c =
    let held : Held 0 (AreAllThere g.B.Crew.asked.crew (view c.loop-actor.pass)) = search rules in
    let all = gathered g.B.Crew.asked (view c.loop-actor.pass) c.loop-actor.row c.loop-actor.invariant.gathers
    (none_queued g.B.Crew.asked.crew (view c.loop-actor.pass) held) in record { all = all.0; turns = all.1 }
