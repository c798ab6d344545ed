use Rattle.std.proofs.Common.{◌≡◌, ◌∙◌, List, ℕ, slice_index, refl, sym, subst, rules, inl, inr}
use Rattle.std.proofs.lemmas.Result.{err_from_is_err_and}
use Rattle.chip_graph.specs.Multigraph.{Multigraph}
use Rattle.chip_graph.specs.ChipGame.{ChipGame}
use Rattle.chip_sequence.specs.Counted.{game_from}
use Rattle.chip_library.specs.EdgeLists.{graph_of}
use Rattle.chip_library.specs.Drops.{AreDrops, AreMade, BeginsPile}
use Rattle.chip_library.proofs.DropLemmas.{made_all, outcome_is}
use Rattle.chip_library.proofs.drops.avalanches.Goals as goal

pub returns-in_err-pile-2 : goal.returns-in_err-pile-2
returns-in_err-pile-2 c =
    let g : ChipGame = game_from (graph_of c.args.edges) c.args.chips.now c.args.limit in
    let begins : BeginsPile g c.in_ok-pile.pile c.in_ok-pile.room =
    subst (λ (G : Multigraph). BeginsPile (game_from G c.args.chips.now c.args.limit) c.in_ok-pile.pile c.in_ok-pile.room)
    c.in_ok-graph.ensures.0 c.in_ok-pile.ensures in
    let aligned : AreDrops c.args.edges c.args.at.now c.args.amounts.now c.args.sizes.now c.args.extents.now c.args.losts.now =
    search rules in
    let p = err_from_is_err_and c.from_residual-in_err-pile-2.result c.from_residual-in_err-pile-2.ensures.1 in
    rw (p.1, p.2) (
      refl,
      inr (inr (inr (
        aligned,
        begins.is_game,
        elim c.in_err-pile-2.ensures [
          | inl none ↦ inl none
          | inr found ↦
              let (told, p', leaves, after) = found in
              inr (inr (told, slice_index p'.chips.items, made_all g _ _ begins told p' leaves, rw begins.same_game at after))
        ],
      ))),
    )

pub returns : goal.returns
returns c =
    let g : ChipGame = game_from (graph_of c.args.edges) c.args.chips.now c.args.limit in
    let begins : BeginsPile g c.in_ok-pile.pile c.in_ok-pile.room =
    subst (λ (G : Multigraph). BeginsPile (game_from G c.args.chips.now c.args.limit) c.in_ok-pile.pile c.in_ok-pile.room)
    c.in_ok-graph.ensures.0 c.in_ok-pile.ensures in
    let aligned : AreDrops c.args.edges c.args.at.now c.args.amounts.now c.args.sizes.now c.args.extents.now c.args.losts.now =
    search rules in
    let (told, leaves, on, columns) = c.in_ok-pile-2.ensures in
    let chips : c.copy_from_slice.new.self ≡ c.in_ok-end.end.chips.items =
    c.copy_from_slice.ensures.after ∙ c.deref.ensures.value in
    let sizes : c.copy_from_slice-2.new.self ≡ c.in_ok-pile-2.told.sizes.items =
    c.copy_from_slice-2.ensures.after ∙ c.deref-2.ensures.value in
    let extents : c.copy_from_slice-3.new.self ≡ c.in_ok-pile-2.told.extents.items =
    c.copy_from_slice-3.ensures.after ∙ c.deref-3.ensures.value in
    let losts : c.copy_from_slice-4.new.self ≡ c.in_ok-pile-2.told.losts.items =
    c.copy_from_slice-4.ensures.after ∙ c.deref-4.ensures.value in
    let left = outcome_is _ leaves.pile _ c.in_ok-end.ensures.played in (
      aligned,
      begins.is_game,
      c.copy_from_slice.ensures.len,
      told,
      on,
      rw (sizes, extents, losts) columns,
      subst (λ (l : List ℕ). AreMade g told (slice_index l)) (sym chips)
          (subst (AreMade g told) left (made_all g _ _ begins told _ leaves)),
    )
