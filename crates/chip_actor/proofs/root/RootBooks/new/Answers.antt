use Rattle.std.proofs.Common.{◌≡◌, ℕ, length, replicate, ap, ◌∙◌}
use Rattle.chip_graph.specs.ChipGame.{ChipGame, IsGame}
use Rattle.chip_part.specs.Setting.{Setting}
use Rattle.chip_actor.specs.Root.{with_chips}
use Rattle.chip_actor.proofs.RootLemmas.{root_opens}
use Rattle.chip_actor.proofs.FeedLemmas.{feeder_opens}
use Rattle.chip_actor.proofs.root.RootBooks.new.Goals as goal

pub returns : goal.returns
returns c =
    let g : Setting = c.args.setting.now in
    let game : IsGame g.game = c.game.ensures.setting.game in
    let start : c.start-start.result.now ≡ g.game.start =
    c.start-start.ensures.value ∙ ap (λ (k : ChipGame). k.start) c.game.ensures.value in
    let count : length c.start-start.result.now ≡ g.game.graph.vertices = ap length start ∙ game.start_fits in
    root_opens g game _ c.graph_edges.ensures.value
    (c.in_ok-vec.ensures.items_if_clones_equal (λ y h. h) ∙ ap (λ (n : ℕ). replicate n 0) count)
    (c.with_chips.ensures.value ∙ (λ j. with_chips (start j) (count j)))
    (feeder_opens g game c.in_ok-new.field-0 c.in_ok-new.ensures)
