use Rattle.chip_crew.proofs.Names.{◌≡◌, ◌+◌, length, BeginsEach, HasDealt}
use Rattle.chip_crew.proofs.shared.Shared.turn_each.Given as goal

abbrev pub invariant-loop-place : goal.invariant-loop-place
invariant-loop-place g l = record {
  made : HasDealt g.B.Crew.asked l.worker (l.first + l.place) l.actors.items;
  count : length l.actors.items ≡ length l.fn.actors.items;
  can : g.D.Duties.can g.B.Crew.asked.crew.net l.duties;
  goes_on : g.D.Duties.goes_on l.duties;
  done : BeginsEach g.D.Duties.before l.first l.place l.fn.duties l.duties;
}
