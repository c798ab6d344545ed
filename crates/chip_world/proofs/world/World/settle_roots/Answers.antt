use Rattle.chip_world.proofs.Names.{◌≡◌, ◌+◌, ℕ, suc, [], ◌∷◌, arith, root_edge}
use Rattle.chip_world.proofs.Names.{Settle, step, log_after-append, the_view}
use Rattle.chip_world.proofs.Names.{root_settles}
use Rattle.chip_world.proofs.world.World.settle_roots.Goals as goal

pub loop-vertex-preserved : goal.loop-vertex-preserved
loop-vertex-preserved c = λ g before stands.
    let v : ℕ = c.loop-vertex.vertex in
    let here = c.loop-vertex.invariant g before stands in
    let setting : c.self-in-loop-vertex.inside.setting ≡ g =
    rw (← c.self-in-loop-vertex.view_is) at here.1.setting in
    let edge : c.root_edge-edge.result ≡ root_edge g v = rw setting at c.root_edge-edge.ensures.value in
    let made = c.of_root.ensures g here.0 here.1 in
    let more : suc v ≡ v + 1 = omega arith in (
      (step g here.0 (Settle (root_edge g v))).0,
      rw edge at made.0,
      rw (← more, here.2, log_after-append g before (root_settles g v) (Settle (root_edge g v) ∷ [])),
    )

pub returns : goal.returns
returns c = λ g before stands.
    let here = c.loop-vertex.invariant g before stands in
    let setting : (the_view c.self.inside).setting ≡ g = rw (← c.self.view_is) at stands.setting in
    let last = rw setting at c.vertices-vertex-end.ensures.value in
    let below = c.loop-vertex.auto.vertex-end in
    let above = c.loop-vertex-test.false in
    let all : c.loop-vertex.vertex ≡ g.game.graph.vertices = omega arith in
    (here.0, here.1, rw all at here.2)
