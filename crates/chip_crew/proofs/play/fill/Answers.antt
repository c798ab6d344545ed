use Rattle.chip_crew.proofs.Names.{◌≡◌, ap, arith, rules, All-tail, All-head}
use Rattle.chip_crew.proofs.Names.{sum_by-cons, sum_by_push, view, IsOurs, turns_of, all_turns}
use Rattle.chip_crew.proofs.Names.{gave_turns, with_put}
use Rattle.chip_crew.proofs.PlacesLemmas.{puts, have_room}
use Rattle.chip_crew.proofs.play.fill.Goals as goal

pub push_as-requires-clause-rule : goal.push_as-requires-clause-rule
push_as-requires-clause-rule g c = (
  puts g.B.Crew.asked.crew _ _ _ c.in-Some.actor _
      (All-head (IsOurs g.B.Crew.asked.crew) c.in-Some.actor _ (rw c.in-Some.ensures.steps.0 at c.loop-actor.invariant.ours))
      (rw c.in-Some.ensures.steps.0 at c.loop-actor.invariant.has),
  have_room g.B.Crew.asked.crew _ _,
)

pub loop-actor-preserved : goal.loop-actor-preserved
loop-actor-preserved g c =
    let i = c.loop-actor.invariant in
    let told : view c.push_as.new.pass ≡ with_put (view c.loop-actor.pass) c.in-Some.actor = search rules in
    let all = ap all_turns c.in-Some.ensures.steps.0 in
    let both = sum_by-cons turns_of c.in-Some.actor c.next.new.self.rest.items in
    record {
      pass = search rules;
      ours = All-tail (IsOurs g.B.Crew.asked.crew) c.in-Some.actor _ (rw c.in-Some.ensures.steps.0 at i.ours);
      has = rw (told, i.has, c.in-Some.ensures.steps.0) (cc);
      got = rw told i.got;
      gave = (let put = ap gave_turns told in
          let more = sum_by_push turns_of (view c.loop-actor.pass).put c.in-Some.actor in omega arith);
      left = omega arith;
      workers = rw told i.workers;
    }

pub loop-actor-init : goal.loop-actor-init
loop-actor-init g c = record {
  pass = search rules;
  ours = rw c.into_iter-actor-iterator.ensures.into_iter_gives.0 c.requires.actors;
  has = search rules;
  got = c.requires.turns.0;
  gave = c.requires.turns.1;
  left = rw c.into_iter-actor-iterator.ensures.into_iter_gives.0 c.requires.turns.2;
  workers = search rules;
}
