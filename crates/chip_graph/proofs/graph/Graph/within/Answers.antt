use Rattle.chip_graph.proofs.Names.{◌≡◌, ◌≤◌, List, ℕ, length, Some, None, map, inl, inr, refl, ⊎_elim, ◌∙◌}
use Rattle.chip_graph.proofs.Names.{arith, rules, Edge, Tail, max_vertices, Multigraph, AreDistances, fault_of_rows}
use Rattle.chip_graph.specs.declared.fault.GraphFault.TheVariants.{NoMemory}
use Rattle.chip_graph.specs.Limits.{max_edges}
use Rattle.chip_graph.proofs.FaultLemmas.{AreEdges, accepted, told, edges_ok, edges_end, edges_short, rows_graph}
use Rattle.chip_graph.proofs.FaultLemmas.{rows_as_edges, sizes_vertices, sizes_sink, sizes_edges}
use Rattle.chip_graph.proofs.IndexLemmas.{refused, unreached_fault, all_noted, all_reach}
use Rattle.chip_graph.proofs.graph.Graph.within.Goals as goal
use Rattle.chip_graph.proofs.graph.Graph.within.Goals.{In_ok-check_sizes, In_ok-counts, In_ok-check_reached}

-- the graph that is made
abbrev made : ℕ → ℕ → List Edge → Multigraph
made vertices sink edges = record { vertices = vertices; sink = sink; edges = edges }

-- the rows have no fault, and the edges are those of a graph
rows : (c : In_ok-counts)
    → fault_of_rows c.args.limits (made c.args.vertices c.args.sink c.as_slice-rows.result.now) ≡ None
rows c = rows_as_edges c.args.limits (made c.args.vertices c.args.sink c.as_slice-rows.result.now)
    (accepted _ c.in_ok-check_sizes.ensures.first) ∙ c.in_ok-counts.ensures.0

are_edges : (c : In_ok-counts)
    → AreEdges (made c.args.vertices c.args.sink c.as_slice-rows.result.now)
are_edges c = edges_ok c.args.vertices c.args.sink 0 c.as_slice-rows.result.now c.in_ok-counts.ensures.0

-- the numbers of vertices and edges are bounded
few_vertices : (c : In_ok-check_sizes) → c.args.vertices ≤ max_vertices
few_vertices c = omega (
  arith,
  c.in_ok-check_sizes.ensures.limits.few_vertices,
  (sizes_vertices c.args.limits
      (made c.args.vertices c.args.sink c.as_slice-rows.result.now) (accepted _ c.in_ok-check_sizes.ensures.first)).1,
)

few_edges : (c : In_ok-check_sizes) → length c.as_slice-rows.result.now ≤ max_edges
few_edges c = omega (
  arith,
  c.in_ok-check_sizes.ensures.limits.few_edges,
  sizes_edges c.args.limits
      (made c.args.vertices c.args.sink c.as_slice-rows.result.now) (accepted _ c.in_ok-check_sizes.ensures.first),
)

-- each vertex has a distance
all_found : (c : In_ok-check_reached)
    → AreDistances (made c.args.vertices c.args.sink c.as_slice-rows.result.now)
    (map (λ d. Some d) c.in_ok-ins.distances.items)
all_found c = rw (all_noted c.in_ok-ins.distances.items
    (rw c.deref.ensures.value at c.in_ok-check_reached.ensures.all)) at c.in_ok-ins.ensures.distances

pub count-requires-clause-few_vertices : goal.count-requires-clause-few_vertices
count-requires-clause-few_vertices c = few_vertices (goal.at.count-requires-clause-few_vertices c).In_ok-check_sizes

pub count-requires-clause-few_edges : goal.count-requires-clause-few_edges
count-requires-clause-few_edges c = few_edges (goal.at.count-requires-clause-few_edges c).In_ok-check_sizes

pub ins_and_distances-requires : goal.ins_and_distances-requires
ins_and_distances-requires c = record {
  sink_is_vertex = sizes_sink c.args.limits (made c.args.vertices c.args.sink c.as_slice-rows.result.now)
      (accepted _ c.in_ok-check_sizes.ensures.first);
  few_vertices = few_vertices (goal.at.ins_and_distances-requires c).In_ok-check_sizes;
  few_edges = few_edges (goal.at.ins_and_distances-requires c).In_ok-check_sizes;
  edges = are_edges (goal.at.ins_and_distances-requires c).In_ok-counts;
  counted = c.in_ok-counts.ensures.1.heads;
}

pub edges_by-requires : goal.edges_by-requires
edges_by-requires c =
    let are = are_edges (goal.at.edges_by-requires c).In_ok-counts in
    let few = few_vertices (goal.at.edges_by-requires c).In_ok-check_sizes in
    let few' = few_edges (goal.at.edges_by-requires c).In_ok-check_sizes in
    let ends = edges_end (made c.args.vertices c.args.sink c.as_slice-rows.result.now) are Tail in
    let short = edges_short (made c.args.vertices c.args.sink c.as_slice-rows.result.now) are few in
    let counted = c.in_ok-counts.ensures.1.tails in search rules

pub returns-in_err-check_sizes : goal.returns-in_err-check_sizes
returns-in_err-check_sizes c =
    rw (← c.as_slice-rows.ensures.value)
    (refused c.args.limits (made c.args.vertices c.args.sink c.as_slice-rows.result.now) c.from_residual.result
    c.in_err-check_sizes.field-0.0 c.from_residual.ensures.1
    (inr (inl (rw (told _ _ c.in_err-check_sizes.ensures.first)))))

pub returns-in_err-counts : goal.returns-in_err-counts
returns-in_err-counts c =
    let same = rows_as_edges c.args.limits (made c.args.vertices c.args.sink c.as_slice-rows.result.now)
    (accepted _ c.in_ok-check_sizes.ensures.first) in
    rw (← c.as_slice-rows.ensures.value)
    (refused c.args.limits (made c.args.vertices c.args.sink c.as_slice-rows.result.now) c.from_residual-in_err-counts.result
    c.in_err-counts.field-0.0 c.from_residual-in_err-counts.ensures.1
    (⊎_elim (λ memory. inl (memory.0, same ∙ memory.1)) (λ is. inr (inl (same ∙ is))) c.in_err-counts.ensures))

pub returns-in_err-ins : goal.returns-in_err-ins
returns-in_err-ins c =
    rw (← c.as_slice-rows.ensures.value)
    (refused c.args.limits (made c.args.vertices c.args.sink c.as_slice-rows.result.now) c.from_residual-in_err-ins.result
    NoMemory c.from_residual-in_err-ins.ensures.1
    (inl (refl, rows (goal.at.returns-in_err-ins c).In_ok-counts)))

pub returns-in_err-check_reached : goal.returns-in_err-check_reached
returns-in_err-check_reached c =
    let least = c.in_err-check_reached.ensures.least in
    let found = rw (← c.deref.ensures.value) at c.in_ok-ins.ensures.distances in
    rw (← c.as_slice-rows.ensures.value)
    (refused c.args.limits (made c.args.vertices c.args.sink c.as_slice-rows.result.now)
    c.from_residual-in_err-check_reached.result c.in_err-check_reached.field-0.0 c.from_residual-in_err-check_reached.ensures.1
    (inr (inr (
      rows (goal.at.returns-in_err-check_reached c).In_ok-counts,
      unreached_fault (made c.args.vertices c.args.sink c.as_slice-rows.result.now) c.deref.result.now found
          least.0 c.in_err-check_reached.field-0.0 least.1 least.2 least.3 least.4,
    ))))

pub returns-in_err-outs : goal.returns-in_err-outs
returns-in_err-outs c =
    rw (← c.as_slice-rows.ensures.value)
    (refused c.args.limits (made c.args.vertices c.args.sink c.as_slice-rows.result.now) c.from_residual-in_err-outs.result
    NoMemory c.from_residual-in_err-outs.ensures.1
    (inl (refl, rows (goal.at.returns-in_err-outs c).In_ok-counts)))

pub returns-in_err-new : goal.returns-in_err-new
returns-in_err-new c =
    rw (← c.as_slice-rows.ensures.value)
    (refused c.args.limits (made c.args.vertices c.args.sink c.as_slice-rows.result.now) c.from_residual-in_err-new.result
    NoMemory c.from_residual-in_err-new.ensures.1
    (inl (refl, rows (goal.at.returns-in_err-new c).In_ok-counts)))

pub invariant_of-indexed : goal.invariant_of-indexed
invariant_of-indexed c =
    let found = all_found (goal.at.invariant_of-indexed c).In_ok-check_reached in
    let fits = rows_graph c.args.limits (made c.args.vertices c.args.sink c.as_slice-rows.result.now)
    (accepted _ c.in_ok-check_sizes.ensures.first) c.in_ok-counts.ensures.0
    c.in_ok-check_sizes.ensures.limits (all_reach _ c.in_ok-ins.distances.items found) in
    let degrees = c.in_ok-counts.ensures.1.degrees in let ins = c.in_ok-ins.ensures.ins in
    let outs = c.in_ok-outs.ensures in rw (← c.as_slice-rows.ensures.value) (search rules)

pub returns : goal.returns
returns c = (
  c.in_ok-new.ensures.ok,
  rw (← c.as_slice-rows.ensures.value)
      (rows_graph c.args.limits (made c.args.vertices c.args.sink c.as_slice-rows.result.now)
      (accepted _ c.in_ok-check_sizes.ensures.first) c.in_ok-counts.ensures.0
      c.in_ok-check_sizes.ensures.limits
      (all_reach _ c.in_ok-ins.distances.items (all_found (goal.at.returns c).In_ok-check_reached))),
)
