use Rattle.std.proofs.Common.{◌≡◌, ◌≤◌, ◌==◌, nat_le, not, ◌&&◌, length, slice_index}
use Rattle.chip_graph.specs.Sums.{filter_below}
use Rattle.chip_graph.specs.Multigraph.{degree}
use Rattle.chip_fire.proofs.work_list.list_few.Given as goal

abbrev pub invariant-loop-vertex : goal.invariant-loop-vertex
invariant-loop-vertex l = record {
  few : length l.legal.items ≤ l.few;
  listed : l.legal.items
      ≡ filter_below (λ v. not (v == l.graph.sink) && nat_le (degree l.graph v) (slice_index l.chips v)) l.vertex;
}
