use Rattle.chip_crew.proofs.Names.{◌≡◌, ◌+◌, ◌≤◌, length, Some, vec_capacity, view, IsPassOf, AreReady, HasNothing}
use Rattle.chip_crew.proofs.play.passes.Given as goal

abbrev pub invariant-loop : goal.invariant-loop
invariant-loop g l = record {
  ready : AreReady g.B.Crew.asked (Some l.pass.table_id) l.all.items;
  count : length l.all.items ≡ l.counter;
  room : l.workers ≤ vec_capacity l.all;
  pass : IsPassOf l.queue l.pass;
  has : HasNothing (view l.pass);
  left : (view l.pass).workers + l.counter ≡ l.workers;
}
