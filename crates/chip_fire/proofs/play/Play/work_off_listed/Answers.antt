use Rattle.std.proofs.Common.{◌≡◌, ℕ, ◌/◌, ◌++◌, ◌≤◌, mul-le-mul_right, List, take, drop, length, slice_index, ap, refl, ◌∙◌, arith}
use Rattle.std.proofs.Math.Nat.{div-mul-le_self}
use Rattle.std.proofs.lemmas.Grind.{common_steps}
use Rattle.chip_fire.specs.Search.{places}
use Rattle.chip_fire.proofs.VisitsLemmas.{few_turns}
use Rattle.chip_fire.proofs.ListedLemmas.{front_legal, works_off}
use Rattle.chip_fire.proofs.play.Play.work_off_listed.Goals as goal

pub work_off-worked-requires-clause-legal : goal.work_off-worked-requires-clause-legal
work_off-worked-requires-clause-legal c =
    let play = c.self.inside in
    let legal = rw (← c.self.view_is) at c.requires in
    let listed : c.len-listed.result ≡ length c.args.queue.items =
    (let a = c.args.queue.ok.0 in let b = c.len-listed.ensures in omega arith) in
    rw c.deref_mut-2.ensures.value (front_legal play.game.now.graph play.chips.items _ _
    (listed ∙ ap length legal)
    (let a = c.deref_mut.ensures.len in let b = c.in_ok-resize.ensures.len in omega arith)
    (λ i l. ap (λ (xs : List ℕ). slice_index xs i) c.deref_mut.ensures.value
    ∙ c.in_ok-resize.ensures.by_index.0 i 0 (omega arith) (omega arith)
    ∙ ap (λ (xs : List ℕ). slice_index xs i) legal))

pub returns-clause-few : goal.returns-clause-few
returns-clause-few c =
    let fired = c.work_off-worked.new.fired in
    let fires = rw c.deref_mut-3.ensures.value at c.work_off-worked.ensures.each_fires in
    let each : c.visits_of_turn-of_turn.result ≤ places c.self.inside.game.now =
    rw c.graph-graph.ensures.value at c.visits_of_turn-of_turn.ensures.few in
    let few = few_turns c.self.inside.game.now c.self.inside.fired.items fired c.work_off-worked.result.turns
    c.visits_of_turn-of_turn.result c.args.visits.now c.saturating_add.result fires each (omega arith) (omega arith) in
    let same : take c.self.inside.fired.len (fired ++ drop (length fired) c.self.inside.fired.items) ≡ fired =
    grind (arith, common_steps) in
    rw (← c.self.view_is, same) few

pub returns-clause-at_most : goal.returns-clause-at_most
returns-clause-at_most c =
    let most = c.work_off-worked.ensures.at_most in
    let all = mul-le-mul_right c.visits_of_turn-of_turn.result most in
    let part = div-mul-le_self c.args.most c.visits_of_turn-of_turn.result in
    omega arith

pub returns-clause-works : goal.returns-clause-works
returns-clause-works c =
    let play = c.self.inside in
    let of_turn = c.visits_of_turn-of_turn.result in
    let fits : of_turn ≤ places play.game.now =
    rw c.graph-graph.ensures.value at c.visits_of_turn-of_turn.ensures.few in
    let same : take play.fired.len (c.work_off-worked.new.fired ++ drop (length c.work_off-worked.new.fired) play.fired.items)
    ≡ c.work_off-worked.new.fired = grind (arith, common_steps) in
    let same' : take play.chips.len (c.work_off-worked.new.chips ++ drop (length c.work_off-worked.new.chips) play.chips.items)
    ≡ c.work_off-worked.new.chips = grind (arith, common_steps) in
    let room : play.game.now.graph.vertices / 8 ≤ length c.deref_mut.result.now / 2 =
    (let a = c.deref_mut.ensures.len in let b = c.in_ok-resize.ensures.len in
    let d = rw c.graph-graph.ensures.value at c.few_of.ensures in omega arith) in
    let done = works_off play.game.now (play.game.now.graph.vertices / 8) c.args.most c.work_off-worked.new.chips
    c.work_off-worked.new.fired c.args.visits.now c.saturating_add.result c.work_off-worked.result.turns
    (c.args.most / of_turn) of_turn (length c.deref_mut.result.now / 2) c.work_off-worked.result.legal
    c.visits_of_turn-of_turn.ensures.some fits refl room c.work_off-worked.ensures.at_most (λ small. omega arith)
    c.work_off-worked.ensures.legal c.work_off-worked.ensures.over in
    rw (← c.self.view_is, same, same', c.listing_after.ensures) done
