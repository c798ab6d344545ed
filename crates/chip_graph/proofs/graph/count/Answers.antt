use Rattle.chip_graph.proofs.Names.{◌≡◌, ◌+◌, ℕ, None, vec_len, below_more, ◌∙◌, subst, arith, AreCounted, edge_of}
use Rattle.chip_graph.proofs.Names.{fault_of_edge}
use Rattle.chip_graph.proofs.FaultLemmas.{accepted, edge_ok, edges_next}
use Rattle.chip_graph.proofs.graph.count.Goals as goal

pub loop-i-preserved : goal.loop-i-preserved
loop-i-preserved c =
    let none : fault_of_edge c.args.vertices c.args.sink c.loop-i.i (edge_of c.args.edges.now c.loop-i.i) ≡ None =
    accepted _ c.in_ok-check_edge.ensures in
    let counted = c.loop-i.counts.degrees.ok.0 in
    let each : vec_len c.loop-i.counts.degrees ≡ c.args.vertices =
    omega (arith, c.loop-i.invariant.counted.degrees.one_each) in
    record {
      so_far = c.loop-i.invariant.so_far
          ∙ edges_next c.args.vertices c.args.sink c.loop-i.i c.args.edges.now c.loop-i-test.true none;
      sound = below_more _ _ c.loop-i.invariant.sound (edge_ok c.args.vertices c.args.sink c.loop-i.i _ none);
      counted = subst (λ (v : ℕ). AreCounted c.args.edges.now v (c.loop-i.i + 1) c.add.new.self) each c.add.ensures;
    }
