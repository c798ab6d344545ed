use Rattle.chip_trace.proofs.Names.{◌≡◌, ◌++◌, ◌∷◌, [], ℕ, List, sym, ap, ◌∙◌, arith, append_assoc, ChipGame, edges_and_roots}
use Rattle.chip_trace.proofs.Names.{Multigraph, Left, ReplayProgress, kept_edges, kept_vertices}
use Rattle.chip_trace.proofs.RemainingLemmas.{edge_more, edge_same, vertex_more, vertex_same}
use Rattle.chip_trace.proofs.remaining.all_left.Goals as goal
use Rattle.chip_trace.proofs.remaining.all_left.Goals.{then-count-gt0+in_ok-push, else-count-gt0}
use Rattle.chip_trace.proofs.remaining.all_left.Goals.{then-is_legal+in_ok-push-2, else-is_legal}

pub loop-edge-preserved : goal.loop-edge-preserved
loop-edge-preserved c =
    let more = edge_more c.args.game.now c.args.progress.now c.loop-edge.edge c.messages_left-count.result
    c.messages_left-count.ensures in
    let same = edge_same c.args.game.now c.args.progress.now c.loop-edge.edge c.messages_left-count.result
    c.messages_left-count.ensures in
    elim c.if-count-gt0.branch [
      | then-count-gt0+in_ok-push w ↦ let is = more w.if-count-gt0.true in let pushed = w.in_ok-push.ensures in cc
      | else-count-gt0 w ↦ let is = same w.if-count-gt0.false in cc
    ]

pub loop-vertex-preserved : goal.loop-vertex-preserved
loop-vertex-preserved c =
    let g : ChipGame = c.args.game.now in
    let p : ReplayProgress = c.args.progress.now in
    let edges : List Left = kept_edges g p (edges_and_roots g.graph) in
    let v : ℕ = c.loop-vertex.vertex in
    elim c.if-is_legal.branch [
      | then-is_legal+in_ok-push-2 w ↦
          ap (λ (left : _). left.items) w.left-is ∙ w.in_ok-push-2.ensures.items
          ∙ (λ i. c.loop-vertex.invariant i ++ w.legal_left.ensures i ∷ [])
          ∙ append_assoc edges (kept_vertices g p v) _
          ∙ ap (λ (vs : List Left). edges ++ vs) (sym (vertex_more g p v (sym c.is_legal.ensures ∙ w.if-is_legal.true)))
      | else-is_legal w ↦
          ap (λ (left : _). left.items) w.left-is ∙ c.loop-vertex.invariant
          ∙ ap (λ (vs : List Left). edges ++ vs)
          (sym (vertex_same g p v (sym c.is_legal.ensures ∙ w.if-is_legal.false)))
    ]

pub returns : goal.returns
returns c =
    let g : ChipGame = c.args.game.now in
    let p : ReplayProgress = c.args.progress.now in
    let many : c.vertices-vertex-end.result ≡ g.graph.vertices = c.vertices-vertex-end.ensures.value
    ∙ ap (λ (G : Multigraph). G.vertices) c.graph-2.ensures.value in
    let all : c.loop-vertex.vertex ≡ g.graph.vertices = (let end = c.loop-vertex-test.false in
    let within = c.loop-vertex.auto.vertex-end in omega arith) in
    c.loop-vertex.invariant
    ∙ ap (λ (n : ℕ). kept_edges g p (edges_and_roots g.graph) ++ kept_vertices g p n) all
