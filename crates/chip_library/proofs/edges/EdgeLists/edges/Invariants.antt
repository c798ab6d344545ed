use Rattle.std.proofs.Common.{◌≡◌, ◌≤◌, length, vec_len, vec_capacity}
use Rattle.chip_library.specs.EdgeLists.{edges_below}
use Rattle.chip_library.proofs.edges.EdgeLists.edges.Given as goal

abbrev pub invariant-loop-e : goal.invariant-loop-e
invariant-loop-e l = record {
  so_far : l.edges.items ≡ edges_below l.self.tails.now l.self.heads.now l.self.mults.now l.e;
  many : vec_len l.edges ≡ l.e;
  room : length l.self.tails.now ≤ vec_capacity l.edges;
}
