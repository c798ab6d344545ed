use Rattle.std.proofs.Common.{◌≡◌, ℕ, List, length, slice_index, replicate, ap, refl, ◌∙◌}
use Rattle.std.proofs.lemmas.List.{length-replicate}
use Rattle.chip_fire.proofs.PlayLemmas.{begun_none, zeros}
use Rattle.chip_fire.proofs.DropLemmas.{keeps_room}
use Rattle.chip_fire.proofs.pile.Pile.begin.Goals as goal

pub returns-clause-begun : goal.returns-clause-begun
returns-clause-begun c =
    let chips = c.in_ok-chips.ensures.items ∙ c.start.ensures.value in
    let vertices = c.vertices-vertices.ensures.value in
    let fired : c.in_ok-fired.fired.items ≡ replicate c.args.game.graph.vertices 0 =
    rw (vertices, c.graph.ensures.value) at (c.in_ok-fired.ensures.items_if_clones_equal (λ y is. is)) in
    record {
      game = c.requires;
      begun = begun_none c.args.game c.requires _ _ chips fired;
      room = keeps_room _ _ _ (ap length fired ∙ length-replicate c.args.game.graph.vertices 0)
          (rw (vertices, c.graph.ensures.value, c.deref.ensures.value) at c.in_ok-room.ensures);
      course = tt;
    }

pub returns-clause-start : goal.returns-clause-start
returns-clause-start c = record {
  same_game = refl;
  chips = c.in_ok-chips.ensures.items ∙ c.start.ensures.value;
  unfired = λ v.
      ap (λ (l : List ℕ). slice_index l v) (c.in_ok-fired.ensures.items_if_clones_equal (λ y is. is)) ∙ zeros _ v;
}
