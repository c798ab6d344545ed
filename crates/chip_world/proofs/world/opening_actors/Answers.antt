use Rattle.chip_world.proofs.Names.{◌≡◌, [], ◌∷◌, subst, arith, length-append, Setting, setting_with}
use Rattle.chip_world.proofs.Names.{opening_part, StandsFor, IsActor}
use Rattle.chip_world.proofs.OpeningLemmas.{pushed}
use Rattle.chip_world.proofs.world.opening_actors.Goals as goal

pub loop-vertex-preserved : goal.loop-vertex-preserved
loop-vertex-preserved c =
    let g : Setting = c.args.setting.now in
    let same : setting_with c.game-game.result.now c.cells-ring.result g.fed ≡ g =
    rw (c.game-game.ensures.value, c.cells-ring.ensures.number, c.ring.ensures.value) in
    let long = length-append c.loop-vertex.actors.items (c.in_ok-new.field-0 ∷ []) in
    let so_far = c.loop-vertex.invariant.0 in let count = so_far.count_is in (
      rw c.push_reserved.ensures.items record {
        count_is = omega arith;
        each = pushed (IsActor g []) c.loop-vertex.actors.items c.in_ok-new.field-0 c.loop-vertex.vertex count
            so_far.each record {
              vertex_is = c.in_ok-new.ensures.vertex;
              stands = subst (λ (h : Setting). StandsFor h (opening_part h) c.in_ok-new.field-0) same
                  (c.in_ok-new.ensures.opened g.fed);
            };
      },
      (let room = c.loop-vertex.invariant.1 in let same = c.push_reserved.ensures.capacity in omega arith),
    )

pub push_reserved-requires : goal.push_reserved-requires
push_reserved-requires c =
    let count = c.loop-vertex.invariant.0.count_is in let room = c.loop-vertex.invariant.1 in
    let less = c.loop-vertex-test.true in let len = c.loop-vertex.actors.ok.0 in
    omega arith

pub returns-clause-actors : goal.returns-clause-actors
returns-clause-actors c =
    let all : c.loop-vertex.vertex ≡ c.args.setting.now.game.graph.vertices =
    (let same = c.vertices-vertices.ensures.value in
    let low = c.loop-vertex-test.false in let high = c.loop-vertex.auto.vertex-end in omega arith) in
    rw all at c.loop-vertex.invariant.0
