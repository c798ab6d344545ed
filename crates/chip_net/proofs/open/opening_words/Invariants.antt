use Rattle.chip_net.proofs.Names.{◌+◌, graph_edges, AreOpening}
use Rattle.chip_net.proofs.open.opening_words.Given as goal

abbrev pub invariant-loop-vertex : goal.invariant-loop-vertex
invariant-loop-vertex l = AreOpening l.setting (graph_edges l.setting + l.vertex) l.words.items
