use Rattle.std.proofs.Common.{◌≡◌, ◌*◌, drop, slice_index}
use Rattle.chip_recurrent.specs.Recurrents.{AreTestedBy}
use Rattle.chip_recurrent.proofs.recurrent.each_test.Given as goal

abbrev pub invariant-loop-number : goal.invariant-loop-number
invariant-loop-number l = record {
  same_graph : l.graph ≡ l.fn.graph;
  rest : l.rest ≡ drop (l.number * l.fn.graph.vertices) l.chips;
  done : AreTestedBy l.fn.graph (slice_index l.burning) l.chips l.number l.flags.items;
}
