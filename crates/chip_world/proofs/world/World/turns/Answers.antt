use Rattle.chip_world.proofs.Names.{◌≡◌, ◌+◌, suc, arith}
use Rattle.chip_world.proofs.world.World.turns.Goals as goal

pub turn-requires : goal.turn-requires
turn-requires c =
    let some = c.self.invariant in
    let here = c.loop-vertex.invariant some.0 some.1 (rw (← c.self.view_is) some.2) in
    (some.0, here.0, here.1, rw (c.vertices-vertex-end.ensures.value, some.2.setting) at c.loop-vertex-test.true)

pub loop-vertex-preserved : goal.loop-vertex-preserved
loop-vertex-preserved c = λ g before stands.
    let here = c.loop-vertex.invariant g before stands in
    let after = c.turn.ensures g here.0 here.1 in
    let more : suc c.loop-vertex.vertex ≡ c.loop-vertex.vertex + 1 = omega arith in
    (after.0, after.1, rw (← more) (here.0, here.2, after.2))
