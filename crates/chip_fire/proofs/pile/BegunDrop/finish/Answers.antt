use Rattle.std.proofs.Common.{◌≡◌, ap, ◌∙◌, length, arith}
use Rattle.std.proofs.lemmas.List.{with_items_is}
use Rattle.chip_graph.specs.Multigraph.{Multigraph}
use Rattle.chip_fire.specs.Rounds.{PlayState}
use Rattle.chip_fire.proofs.DropLemmas.{drop_told, row_told}
use Rattle.chip_fire.proofs.pile.BegunDrop.finish.Goals as goal

pub returns-then-stable-clause-avalanche : goal.returns-then-stable-clause-avalanche
returns-then-stable-clause-avalanche bounds c g ds x is =
    let played = c.play_out-found.ensures in
    let same = ap (λ (p : PlayState). p.game) c.play.view_is ∙ played.same in
    let sink = c.sink.ensures.value ∙ ap (λ (G : Multigraph). G.sink) c.graph.ensures.value in
    let stable = (rw (← c.play.view_is) at played.stable).0 c.if-stable.true in
    let told = rw (c.deref.ensures.value, c.deref_mut.ensures.value, played.room.before) at c.tally-size.ensures in (
      is.adds,
      drop_told g ds x c.args.self is _ _ (rw same at c.play.invariant) stable _ told.size told.extent _
          (rw sink at c.index.ensures) c.saturating_sub-lost.ensures,
    )

pub returns-then-stable-clause-row : goal.returns-then-stable-clause-row
returns-then-stable-clause-row bounds c g ds x is =
    let played = c.play_out-found.ensures in
    let same = ap (λ (p : PlayState). p.game) c.play.view_is ∙ played.same in
    let stable = (rw (← c.play.view_is) at played.stable).0 c.if-stable.true in
    let told = rw (c.deref.ensures.value, c.deref_mut.ensures.value, played.room.before) at c.tally-size.ensures in
    let room = c.play_out-found.new.room in
    let in_support = ap length c.deref_mut-2.ensures.value in
    let in_list = ap length c.deref_mut-3.ensures.value in
    let support_len : length c.tally-size.new.support ≡ room.support.len = omega (arith, room.support.ok.0) in
    let list_len : length c.tally-size.new.times ≡ room.list.len = omega (arith, room.list.ok.0) in
    rw (with_items_is, with_items_is) (row_told g ds x c.args.self is _ _ (rw same at c.play.invariant) stable _ _ told.row)
