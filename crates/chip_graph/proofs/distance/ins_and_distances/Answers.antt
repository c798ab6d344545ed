use Rattle.chip_graph.proofs.Names.{◌≡◌, ◌<◌, ℕ, List, vec_len, get_or, length, map, refl, ap, ◌∙◌, arith, Multigraph}
use Rattle.chip_graph.proofs.Names.{edges_in, findings, noted, edge_of, Edge, Tail, length-map}
use Rattle.chip_graph.specs.declared.edge.End.TheVariants.{Head}
use Rattle.chip_graph.proofs.FaultLemmas.{edges_end, edges_short}
use Rattle.std.proofs.lemmas.List.Elements.{All-map}
use Rattle.chip_graph.proofs.SpreadingLemmas.{IsReached, begin_spread, turn_reached, turn_kept, few_reached}
use Rattle.chip_graph.proofs.SpreadingLemmas.{all_distances}
use Rattle.chip_graph.proofs.PickLemmas.{All-edges_with}
use Rattle.chip_graph.proofs.distance.ins_and_distances.Goals as goal
use Rattle.chip_graph.proofs.distance.ins_and_distances.Goals.{After-index, After-beside}

-- one of the reached is left
some_left : (c : After-index) → c.loop-next.next < length c.loop-next.search.reached.items
some_left c = omega (arith, c.loop-next.search.reached.ok.0)

-- the invariant for the vertex whose turn it is
turn : (c : After-index) → IsReached
    (record { vertices = c.args.vertices; sink = c.args.sink; edges = c.args.edges.now }) c.loop-next.next
    c.index.result.now
turn c = turn_reached _ (findings c.loop-next.search) c.loop-next.next c.loop-next.invariant c.index.result.now
    (some_left c) c.index.ensures

-- the tail of an edge
abbrev tail_in : List Edge → ℕ → ℕ
tail_in edges e = (edge_of edges e).tail

-- what is read are the tails of the edges into its vertex
row_is : (c : After-beside)
    → c.beside.result.now ≡ map (tail_in c.args.edges.now) (edges_in
    (record { vertices = c.args.vertices; sink = c.args.sink; edges = c.args.edges.now })
    c.index.result.now.vertex)
row_is c =
    let at = turn_reached _ (findings c.loop-next.search) c.loop-next.next c.loop-next.invariant c.index.result.now
    (omega (arith, c.loop-next.search.reached.ok.0)) c.index.ensures in
    c.beside.ensures (tail_in c.args.edges.now) (c.deref.ensures.value ∙ c.in_ok-ins.ensures.parts)
    ∙ ap (map (tail_in c.args.edges.now)) (c.in_ok-ins.ensures.lists.each c.index.result.now.vertex at.is_vertex)

pub loop-next-init : goal.loop-next-init
loop-next-init c = rw c.in_ok-search.ensures (begin_spread
    (record { vertices = c.args.vertices; sink = c.args.sink; edges = c.args.edges.now }) c.requires.sink_is_vertex)

pub overflow_add-distance : goal.overflow_add-distance
overflow_add-distance c = let at = turn (goal.at.overflow_add-distance c).After-index in
    let few = few_reached _ _ _ c.loop-next.invariant in let l = some_left (goal.at.overflow_add-distance c).After-index
    in omega (arith, at.early)

pub beside-requires-clause-inside : goal.beside-requires-clause-inside
beside-requires-clause-inside c =
    let at = turn (goal.at.beside-requires-clause-inside c).After-index in
    omega (arith, at.is_vertex, c.in_ok-ins.ensures.lists.one_each)

pub beside-requires-clause-one_each : goal.beside-requires-clause-one_each
beside-requires-clause-one_each c =
    ap length (c.deref.ensures.value ∙ c.in_ok-ins.ensures.parts)
    ∙ length-map _ (tail_in c.args.edges.now)

pub edges_by-requires-clause-ends : goal.edges_by-requires-clause-ends
edges_by-requires-clause-ends c = edges_end _ c.requires.edges Head

pub edges_by-requires-clause-short : goal.edges_by-requires-clause-short
edges_by-requires-clause-short c = edges_short _ c.requires.edges c.requires.few_vertices

pub reach_all-requires-clause-distance : goal.reach_all-requires-clause-distance
reach_all-requires-clause-distance c = let at = turn (goal.at.reach_all-requires-clause-distance c).After-index in
    let few = few_reached _ _ _ c.loop-next.invariant in
    let l = some_left (goal.at.reach_all-requires-clause-distance c).After-index in
    omega (arith, at.early, c.requires.few_vertices)

pub reach_all-requires-clause-vertices : goal.reach_all-requires-clause-vertices
reach_all-requires-clause-vertices c =
    let G : Multigraph = record { vertices = c.args.vertices; sink = c.args.sink; edges = c.args.edges.now } in
    let es : List ℕ = edges_in G c.index.result.now.vertex in
    let many = c.loop-next.invariant.one_each in
    let counted = c.loop-next.search.distances.ok.0 in
    let same = length-map c.loop-next.search.distances.items noted in
    rw (row_is c) (All-map (λ v. v < vec_len c.loop-next.search.distances) (tail_in c.args.edges.now) es (λ k d l.
    let small = edges_end G c.requires.edges Tail (get_or es k d)
    (All-edges_with Head c.args.edges.now c.index.result.now.vertex k d l) in
    omega arith))

pub loop-next-preserved : goal.loop-next-preserved
loop-next-preserved c =
    let G : Multigraph = record { vertices = c.args.vertices; sink = c.args.sink; edges = c.args.edges.now } in
    rw (c.in_ok-reach_all.ensures, row_is (goal.at.loop-next-preserved c).After-beside)
    (turn_kept G (findings c.loop-next.search) c.loop-next.next c.loop-next.invariant c.index.result.now
    (omega (arith, c.loop-next.search.reached.ok.0)) c.index.ensures
    (edges_end G c.requires.edges Tail) (edges_in G c.index.result.now.vertex) refl)

pub returns-clause-ins : goal.returns-clause-ins
returns-clause-ins c = c.in_ok-ins.ensures.lists

pub returns-clause-distances : goal.returns-clause-distances
returns-clause-distances c = all_distances _ (findings c.loop-next.search) c.loop-next.next c.loop-next.invariant
    (omega (arith, c.loop-next.search.reached.ok.0))
