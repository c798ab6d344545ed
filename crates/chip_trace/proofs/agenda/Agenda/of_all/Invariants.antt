use Rattle.chip_trace.proofs.Names.{◌≡◌, ◌+◌, ◌<◌, length, All}
use Rattle.chip_trace.proofs.agenda.Agenda.of_all.Given as goal

abbrev pub invariant-loop-vertex : goal.invariant-loop-vertex
invariant-loop-vertex l = record {
  each : length l.waiting.items + l.vertex ≡ l.vertices;
  due : All (λ v. v < l.vertices) l.due.items;
  waiting : All (λ waiters. All (λ v. v < l.vertices) waiters.items) l.waiting.items;
}
