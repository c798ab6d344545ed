use Rattle.std.proofs.Common.{◌≡◌, ℕ, subst, ap, ◌∙◌, length, refl, arith}
use Rattle.std.proofs.lemmas.List.{with_items_is}
use Rattle.chip_graph.specs.Multigraph.{Multigraph}
use Rattle.chip_fire.specs.Timed.{EndsInRounds}
use Rattle.chip_fire.proofs.DropLemmas.{arrived_drop, begun_drop, led_drop, chips_dropped}
use Rattle.chip_fire.proofs.pile.Pile.begin_with.Goals as goal

pub play_from-worked-requires-clause-begun : goal.play_from-worked-requires-clause-begun
play_from-worked-requires-clause-begun c = rw (c.deref_mut.ensures.value, c.deref_mut-2.ensures.value)
    (begun_drop c.args.self c.requires.pile _ _ _ _ c.with_drop-game.ensures c.requires.is_vertex c.requires.few_chips
    c.index_mut.ensures.value)

pub returns-clause-begun : goal.returns-clause-begun
returns-clause-begun c =
    let pile = c.requires.pile in
    let more = c.with_drop-game.ensures in
    let worked = c.play_from-worked.ensures in
    let room = rw c.deref_mut-2.ensures.value at worked.room in
    let sink = c.sink.ensures.value ∙ ap (λ (G : Multigraph). G.sink) c.graph.ensures.value in
    let each = ap length room.before in
    let fired = pile.begun.in_range.fired_each in
    let vertices = ap (λ (G : Multigraph). G.vertices) more.same_graph in
    let chips_len : length c.play_from-worked.new.chips ≡ c.args.self.chips.len =
    omega (arith, worked.begun.in_range.chips_each, pile.begun.in_range.chips_each, c.args.self.chips.ok.0) in
    let fired_len : length c.play_from-worked.new.fired ≡ c.args.self.fired.len =
    omega (arith, worked.begun.in_range.fired_each, fired, c.args.self.fired.ok.0) in record {
      adds = more;
      game = c.graph.ensures.game;
      led = rw room.before (led_drop c.args.self pile _ _ _ _ more c.requires.is_vertex c.requires.few_chips
          c.index_mut.ensures.value);
      arrived = arrived_drop c.args.self pile _ _ _ _ more c.requires.is_vertex c.requires.few_chips
          c.index_mut.ensures.value _ _ sink c.index-arrived.ensures;
      begun = rw (with_items_is, with_items_is) worked.begun;
      before_each = omega arith;
      room = record { before = refl; support_each = room.support_each; list_room = room.list_room; row = room.row };
      worked = rw (with_items_is, with_items_is) worked.worked;
    }

pub returns-clause-rounds : goal.returns-clause-rounds
returns-clause-rounds c timed =
    let more = c.with_drop-game.ensures in
    let moved = chips_dropped c.args.self c.requires.pile _ _ _ _ more c.requires.is_vertex c.requires.few_chips
    c.index_mut.ensures.value in
    let pile = c.requires.pile in
    let worked = c.play_from-worked.ensures in
    let fired = pile.begun.in_range.fired_each in
    let vertices = ap (λ (G : Multigraph). G.vertices) more.same_graph in
    let chips_len : length c.play_from-worked.new.chips ≡ c.args.self.chips.len =
    omega (arith, worked.begun.in_range.chips_each, pile.begun.in_range.chips_each, c.args.self.chips.ok.0) in
    let fired_len : length c.play_from-worked.new.fired ≡ c.args.self.fired.len =
    omega (arith, worked.begun.in_range.fired_each, fired, c.args.self.fired.ok.0) in
    rw (with_items_is, with_items_is, ← more.same_graph, ← more.same_limit) (subst (λ (y : ℕ → ℕ).
    EndsInRounds c.with_drop-game.result.graph c.with_drop-game.result.limit y c.play_from-worked.new.chips
    c.play_from-worked.new.fired c.play_from-worked.result.0 c.play_from-worked.result.1) moved
    (rw c.deref_mut.ensures.value at (worked.rounds timed)))
