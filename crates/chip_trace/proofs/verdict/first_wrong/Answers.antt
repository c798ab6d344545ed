use Rattle.chip_trace.proofs.Names.{◌≡◌, map, arith, ap, ◌∙◌, below_more, Multigraph}
use Rattle.chip_trace.proofs.VerdictLemmas.{not_found_wrong}
use Rattle.chip_trace.proofs.verdict.first_wrong.Goals as goal

pub loop-vertex-preserved : goal.loop-vertex-preserved
loop-vertex-preserved c =
    below_more _ _ c.loop-vertex.invariant
    (not_found_wrong c.args.game.now (map (λ t. t.items) c.args.traces.now) c.args.progress.now c.loop-vertex.vertex
    c.look_at.result c.look_at.ensures c.in_default.not-Wrong)

pub returns : goal.returns
returns c =
    let many : c.vertices-vertex-end.result ≡ c.args.game.now.graph.vertices = c.vertices-vertex-end.ensures.value
    ∙ ap (λ (g : Multigraph). g.vertices) c.graph.ensures.value in
    let end = c.loop-vertex-test.false in
    λ v l. c.loop-vertex.invariant v (omega arith)
