use Rattle.chip_sequence.proofs.Names.{◌≡◌, ℕ, ◌^◌, ◌<◌, length, slice_index, ap, arith, get_or-le-sum_by, edges_in}
use Rattle.std.proofs.Math.Seq.{take-length}
use Rattle.chip_sequence.proofs.AfterLemmas.{in_edge, flow_sum, flow_fits}
use Rattle.chip_sequence.proofs.counted.income_and_cost.Goals as goal

pub bounds-edges-e : goal.bounds-edges-e
bounds-edges-e c = rw (c.ins-e-items.ensures, c.edges-edges.ensures.value) (in_edge c.args.graph.now
    c.edges-edges.ensures.graph c.args.fired.now c.args.vertex c.loop-e.e-index
    (rw c.ins-e-items.ensures at c.loop-e-test.true))

pub offset_bounds-edges-e : goal.offset_bounds-edges-e
offset_bounds-edges-e c =
    let inside = bounds-edges-e c in
    let few = c.edges-edges.type_inv in
    omega arith

pub overflow_add-had : goal.overflow_add-had
overflow_add-had c =
    let inside = rw c.ins-e-items.ensures at c.loop-e-test.true in
    let low : slice_index c.args.start.now c.args.vertex < 2 ^ 64 =
    (let a = get_or-le-sum_by (λ (n : ℕ). n) c.args.start.now c.args.vertex 0
    (let d = c.requires.start_each in let e = c.requires.is_vertex in omega arith) in let b =
    c.requires.few_chips in omega arith) in
    rw (c.from.ensures, c.from-in-loop-e.ensures, c.edges-edges.ensures.value, c.ins-e-items.ensures)
    (record {
      fits = flow_fits c.args.graph.now c.edges-edges.ensures.graph c.args.fired.now
          c.args.vertex (λ u. (c.type_inv.fired u).fits) (slice_index c.args.start.now c.args.vertex) c.loop-e.had
          c.loop-e.e-index low c.loop-e.invariant inside;
    })

pub returns-clause-had : goal.returns-clause-had
returns-clause-had c =
    let ins : c.ins-e-items.result.now ≡ edges_in c.args.graph.now c.args.vertex = c.ins-e-items.ensures in
    let all : c.loop-e.e-index ≡ length (edges_in c.args.graph.now c.args.vertex) =
    (let a = c.loop-e-test.false in let b = c.loop-e.auto.e-index-end in let d = ap length ins in omega arith) in
    rw (all, take-length, flow_sum c.args.graph.now c.edges-edges.ensures.graph c.args.fired.now c.args.vertex)
    at c.loop-e.invariant
