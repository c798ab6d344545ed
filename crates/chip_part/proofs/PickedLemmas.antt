-- Serves Edges.antt.
-- The numbers that pass a test, as a list: they ascend, and each number is in it.
use Rattle.std.proofs.Common.{◌≡◌, ℕ, zero, suc, ◌+◌, ◌<◌, ◌≤◌, Bool, true, [], ◌∷◌, ◌++◌, length}
use Rattle.std.proofs.Common.{sym, ◌∙◌, subst, arith, length-append, append-nil, eqb, eq-eqb}
use mathlib.Core.Logic.{dite}
use native.Mathlib.Decide.{dec_lt}
use Rattle.std.specs.List.{All, Contains}
use Rattle.std.specs.List.Sorted.{IsStrictlyIncreasing}
use Rattle.std.proofs.lemmas.List.Elements.{Contains-append_left, Contains-append_right, All-nil, All-push}
use Rattle.chip_graph.specs.Multigraph.{Multigraph, edge_at, edges_out, edges_in}
use Rattle.chip_part.specs.Setting.{Setting}
use Rattle.chip_part.specs.Edges.{graph_edges, root_edge, tail_of, head_of}
use Rattle.chip_graph.specs.Sums.{filter_below}
use Rattle.chip_graph.proofs.PickLemmas.{All-picked, rises_push, picked_ascends, picked_has}
use Rattle.chip_graph.proofs.SumLemmas.{by_test}
use Rattle.chip_part.proofs.EdgeLemmas.{tail_graph, head_graph, head_root}
use Rattle.chip_part.proofs.PartLemmas.{tail_inside}

-- the edges out of a vertex and into it
pub outs_rise : (G : Multigraph) (v : ℕ) → IsStrictlyIncreasing (edges_out G v)
outs_rise G v = picked_ascends (λ e. eqb (edge_at G e).tail v) (length G.edges)

pub outs_below : (G : Multigraph) (v : ℕ) → All (λ e. e < length G.edges) (edges_out G v)
outs_below G v = All-picked (λ e. eqb (edge_at G e).tail v) (length G.edges) (length G.edges) (omega arith)

-- with the root edge at the end
pub ins_rise : (G : Multigraph) (v : ℕ) → IsStrictlyIncreasing (edges_in G v ++ (length G.edges + v) ∷ [])
ins_rise G v =
    rises_push (edges_in G v) (length G.edges + v) (picked_ascends (λ e. eqb (edge_at G e).head v) (length G.edges))
    (λ k d l. let below = All-picked (λ e. eqb (edge_at G e).head v) (length G.edges) (length G.edges)
    (omega arith) k d l in omega arith)

-- what is there passes
pub picked_passes : (test : ℕ → Bool) (n : ℕ) → All (λ e. test e ≡ true) (filter_below test n)
picked_passes test zero = All-nil (λ e. test e ≡ true)
picked_passes test (suc n) = by_test (test n)
    (λ is. rw is (All-push (λ e. test e ≡ true) (filter_below test n) n (picked_passes test n) is))
    (λ is. rw (is, append-nil) (picked_passes test n))

pub length-picked : (test : ℕ → Bool) (n : ℕ) → length (filter_below test n) ≤ n
length-picked test zero = omega arith
length-picked test (suc n) =
    let before = length-picked test n in
    by_test (test n) (λ is. rw (is, length-append) (omega arith)) (λ is. rw (is, length-append) (omega arith))

-- the edges out of a vertex, and into it with its root edge, are all that have it as their tail or head
pub among_new_outs : (g : Setting) (v : ℕ) → v < g.game.graph.vertices → (e : ℕ) → tail_of g e ≡ v
    → Contains (edges_out g.game.graph v) e
among_new_outs g v vertex e at =
    let l = tail_inside g e (subst (λ (n : ℕ). n < g.game.graph.vertices) (sym at) vertex) in
    picked_has (λ i. eqb (edge_at g.game.graph i).tail v) (graph_edges g) e l (eq-eqb _ _ (sym (tail_graph g e l) ∙ at))

-- the edges into a vertex are those that a turn visits
pub into_turn : (g : Setting) (v e : ℕ) → head_of g e ≡ v → Contains (edges_in g.game.graph v ++ root_edge g v ∷ []) e
into_turn g v e at = dite (dec_lt e (graph_edges g))
    (λ l. Contains-append_left (edges_in g.game.graph v) (root_edge g v ∷ []) e
    (picked_has (λ i. eqb (edge_at g.game.graph i).head v) (graph_edges g) e l (eq-eqb _ _ (sym (head_graph g e l) ∙ at))))
    (λ n. Contains-append_right (edges_in g.game.graph v) (root_edge g v ∷ []) e
    (0, omega arith, (let h = head_root g e (omega arith) in let z : graph_edges g + v ≡ e = omega arith in z)))

pub among_new_ins : (g : Setting) (v : ℕ) → v < g.game.graph.vertices → (e : ℕ) → head_of g e ≡ v
    → Contains (edges_in g.game.graph v ++ root_edge g v ∷ []) e
among_new_ins g v vertex e at = into_turn g v e at
