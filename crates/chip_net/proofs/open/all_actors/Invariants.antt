use Rattle.chip_net.proofs.Names.{◌≡◌, ℕ, ◌<◌, ◌≤◌, ◌+◌, ◌++◌, [], length, Some, slice_get, find, newcomer}
use Rattle.chip_net.proofs.open.all_actors.Given as goal

abbrev pub ghosts-one_owned : goal.ghosts-one_owned
ghosts-one_owned a = record { part = a.vertex }

abbrev pub invariant-loop-vertex : goal.invariant-loop-vertex
invariant-loop-vertex l = record {
  table : l.seat.table_id ≡ l.initial.seat.table_id;
  parts : (p : ℕ) → l.vertex ≤ p → p < l.net.setting.game.graph.vertices + 2 → find p l.seat.me.0.parts ≡ Some [];
  count : length (l.actors.items ++ l.run.items) ≡ l.vertex;
  made : (p : ℕ) → p < l.vertex → slice_get (l.actors.items ++ l.run.items) p ≡ Some (newcomer l.net l.trace_rows p);
}
