-- Serves Edges.antt.
-- The edges by their numbers: their ends, and how sums over them split into the graph's own edges and the root's.
use Rattle.std.proofs.Common.{◌≡◌, ℕ, ◌+◌, ◌-◌, ◌<◌, ◌≤◌, cond, eqb, length, ap, arith, lt-ltb, le-ltb}
use Rattle.chip_graph.specs.Multigraph.{IsGraph, edge_at, sum_out, sum_in, degree}
use Rattle.chip_part.specs.Setting.{Setting}
use Rattle.chip_graph.specs.Sums.{sum_below}
use Rattle.chip_graph.proofs.SumLemmas.{cond_yes, cond_no, sum_below_ext, sum_below_none}
use Rattle.chip_graph.proofs.SumLemmas.{sum_below_split, sum_below_one}
use Rattle.chip_part.specs.Edges.{graph_edges, all_edges, root_edge, root, tail_of, head_of, mult_of, over_outs}
use Rattle.chip_part.specs.Edges.{over_ins}
use Rattle.std.proofs.lemmas.Bool.{cond-true, cond-false}

module _ (g : Setting) where
  pub tail_graph : (e : ℕ) → e < graph_edges g → tail_of g e ≡ (edge_at g.game.graph e).tail
  tail_graph e l = cond-true _ _ _ (lt-ltb e (length g.game.graph.edges) l)

  pub tail_root : (e : ℕ) → graph_edges g ≤ e → tail_of g e ≡ root g
  tail_root e l = cond-false _ _ _ (le-ltb e (length g.game.graph.edges) l)

  pub head_graph : (e : ℕ) → e < graph_edges g → head_of g e ≡ (edge_at g.game.graph e).head
  head_graph e l = cond-true _ _ _ (lt-ltb e (length g.game.graph.edges) l)

  pub head_root : (e : ℕ) → graph_edges g ≤ e → head_of g e ≡ e - graph_edges g
  head_root e l = cond-false _ _ _ (le-ltb e (length g.game.graph.edges) l)

  pub graph_inside : (e : ℕ) → e < graph_edges g → e < all_edges g
  graph_inside e l = omega arith

  pub over_outs_graph : (v : ℕ) → v < g.game.graph.vertices → (f : ℕ → ℕ) → over_outs g v f ≡ sum_out g.game.graph v f
  over_outs_graph v vertex f =
      let m : ℕ = graph_edges g in
      let n : ℕ = g.game.graph.vertices in
      let whole = sum_below_split m n (λ e. cond (eqb (tail_of g e) v) (f e) 0) in
      let own : sum_below m (λ e. cond (eqb (tail_of g e) v) (f e) 0) ≡ sum_out g.game.graph v f = sum_below_ext m _ _
      (λ e l. ap (λ (t : ℕ). cond (eqb t v) (f e) 0) (tail_graph e l)) in
      let roots : sum_below n (λ i. cond (eqb (tail_of g (m + i)) v) (f (m + i)) 0)
      ≡ 0 = sum_below_none n _ (λ i l. (let at = tail_root (m + i) (omega arith) in
      cond_no (tail_of g (m + i)) v (f (m + i)) 0 (omega arith))) in
      omega arith

  pub over_ins_graph : (v : ℕ) → v < g.game.graph.vertices → (f : ℕ → ℕ)
      → over_ins g v f ≡ sum_in g.game.graph v f + f (root_edge g v)
  over_ins_graph v vertex f =
      let m : ℕ = graph_edges g in
      let n : ℕ = g.game.graph.vertices in
      let whole = sum_below_split m n (λ e. cond (eqb (head_of g e) v) (f e) 0) in
      let own : sum_below m (λ e. cond (eqb (head_of g e) v) (f e) 0) ≡ sum_in g.game.graph v f = sum_below_ext m _ _
      (λ e l. ap (λ (t : ℕ). cond (eqb t v) (f e) 0) (head_graph e l)) in
      let roots : sum_below n (λ i. cond (eqb (head_of g (m + i)) v) (f (m + i)) 0)
      ≡ cond (eqb (head_of g (m + v)) v) (f (m + v)) 0
      = sum_below_one n (λ i. cond (eqb (head_of g (m + i)) v) (f (m + i)) 0) v vertex
      (λ i l ne. (let at = head_root (m + i) (omega arith) in
      cond_no (head_of g (m + i)) v (f (m + i)) 0 (omega arith))) in
      let at : head_of g (m + v) ≡ v = (let a = head_root (m + v) (omega arith) in omega arith) in
      let one : cond (eqb (head_of g (m + v)) v) (f (m + v)) 0
      ≡ f (m + v) = cond_yes (head_of g (m + v)) v (f (m + v)) 0 at in
      omega arith

  pub sums_add_root_edges : IsGraph g.game.graph → (v : ℕ) → v < g.game.graph.vertices → (f : ℕ → ℕ)
      → (over_outs g v f ≡ sum_out g.game.graph v f) × (over_outs g v (mult_of g) ≡ degree g.game.graph v)
      × (over_ins g v f ≡ sum_in g.game.graph v f + f (root_edge g v))
  sums_add_root_edges graph v vertex f =
      (over_outs_graph v vertex f, over_outs_graph v vertex (mult_of g), over_ins_graph v vertex f)
