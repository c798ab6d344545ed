use Rattle.std.proofs.Common.{◌≡◌, ◌≤◌, length, map, take}
use Rattle.std.specs.Vec.{vec_capacity}
use Rattle.chip_run.specs.Recording.{rows_kept, is_any_cut}
use Rattle.chip_run.proofs.recording.write_traces.Given as goal

abbrev pub invariant-loop-actor : goal.invariant-loop-actor
invariant-loop-actor g l = record {
  count : length l.traces.items ≡ l.actor-index;
  room : length l.actors ≤ vec_capacity l.traces;
  rows : map (λ t. t.now) l.traces.items ≡ map rows_kept (take l.actor-index l.actors);
  cut : l.cut ≡ is_any_cut (take l.actor-index l.actors);
}
