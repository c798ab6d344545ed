use Rattle.chip_crew.proofs.Names.{◌≡◌, All, map, view, IsPassOf, IsOurs, all_turns, got_turns, gave_turns}
use Rattle.chip_crew.proofs.play.fill.Given as goal

abbrev pub invariant-loop-actor : goal.invariant-loop-actor
invariant-loop-actor g l = record {
  pass : IsPassOf l.queue l.pass;
  ours : All (IsOurs g.B.Crew.asked.crew) l.actor-iterator.rest.items;
  has : (view l.pass).has ≡ map (λ a. a.vertex) l.actor-iterator.rest.items;
  got : got_turns (view l.pass) ≡ 0;
  gave : gave_turns (view l.pass) ≡ 0;
  left : all_turns l.actor-iterator.rest.items ≡ 0;
  workers : (view l.pass).workers ≡ (view l.fn.pass).workers;
}
