use Rattle.chip_actor.proofs.Names.{◌≡◌, length, map, arith, refl, ap, take_all}
use Rattle.chip_actor.proofs.Names.{OutEnd, fresh_out, outs_rise, outs_below, edges_out}
use Rattle.chip_actor.proofs.EndLemmas.{made_numbers, named_apart}
use Rattle.chip_actor.proofs.ends.outs.Outs.new.Goals.{After-loop-edge}
use Rattle.chip_actor.proofs.ends.outs.Outs.new.Goals as goal

pub offset_bounds-rows-edge : goal.offset_bounds-rows-edge
offset_bounds-rows-edge c =
    let all = rw (← c.outs-numbers.ensures) at (outs_below c.args.graph.now c.args.vertex) in
    let below = all c.loop-edge.edge-index 0 c.loop-edge-test.true in
    omega (arith, c.edges-rows.ensures.graph.few_edges)

pub bounds-rows-edge : goal.bounds-rows-edge
bounds-rows-edge c =
    let all = rw (← c.outs-numbers.ensures) at (outs_below c.args.graph.now c.args.vertex) in
    let below = all c.loop-edge.edge-index 0 c.loop-edge-test.true in
    omega (arith, ap length c.edges-rows.ensures.value)

-- each edge out of the vertex has its end
made : (c : After-loop-edge) → c.loop-edge.ends.items
    ≡ map (fresh_out c.args.graph.now c.args.ring) (edges_out c.args.graph.now c.args.vertex)
made c =
    rw (← c.outs-numbers.ensures, ← take_all c.loop-edge.edge-index c.outs-numbers.result.now c.loop-edge-test.false)
    c.loop-edge.invariant

-- and its number
numbers : (c : After-loop-edge) → map (λ (o : OutEnd). o.link.edge) c.loop-edge.ends.items
    ≡ edges_out c.args.graph.now c.args.vertex
numbers c = rw (made c) (made_numbers (λ (o : OutEnd). o.link.edge) (fresh_out c.args.graph.now c.args.ring) (λ e. refl)
    (edges_out c.args.graph.now c.args.vertex))

pub invariant_of-result : goal.invariant_of-result
invariant_of-result c = named_apart (λ (o : OutEnd). o.link.edge) c.loop-edge.ends.items
    (edges_out c.args.graph.now c.args.vertex) (numbers (goal.at.invariant_of-result c).After-loop-edge)
    (outs_rise c.args.graph.now c.args.vertex)

pub returns : goal.returns
returns c = record {
  edges = numbers (goal.at.returns c).After-loop-edge;
  ends = made (goal.at.returns c).After-loop-edge;
}
