use Rattle.std.proofs.Common.{◌≡◌, take, vec_len}
use Rattle.chip_graph.specs.Found.{findings, with_all}
use Rattle.chip_graph.proofs.distance.Search.reach_all.Given as goal

abbrev pub invariant-loop-vertex : goal.invariant-loop-vertex
invariant-loop-vertex l = record {
  so_far : findings l.self ≡ with_all l.distance (take l.vertex-index l.vertices) (findings l.initial.self);
  one_each : vec_len l.self.distances ≡ vec_len l.initial.self.distances;
}
