use Rattle.std.proofs.Common.{ℕ, List, slice_index, ap, ◌∙◌}
use Rattle.chip_fire.proofs.PlayLemmas.{begun_none, zeros}
use Rattle.chip_fire.proofs.play.Play.new.Goals as goal

pub invariant_of-result : goal.invariant_of-result
invariant_of-result c =
    let zeros = c.in_ok-fired.ensures.items_if_clones_equal (λ y same. same) in
    begun_none c.args.game.now c.graph.ensures.game _ _ (c.in_ok-chips.ensures.items ∙ c.start.ensures.value)
    (rw (c.vertices.ensures.value, c.graph.ensures.value) at zeros)

pub returns-clause-unfired : goal.returns-clause-unfired
returns-clause-unfired c = λ v.
    ap (λ (l : List ℕ). slice_index l v) (c.in_ok-fired.ensures.items_if_clones_equal (λ y same. same)) ∙ zeros _ v
