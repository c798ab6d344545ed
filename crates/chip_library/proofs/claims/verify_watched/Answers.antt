use Rattle.std.proofs.Common.{◌≡◌, ◌∙◌, refl, ap, subst, rules, inr}
use Rattle.chip_graph.specs.Multigraph.{Multigraph}
use Rattle.chip_graph.specs.ChipGame.{ChipGame, IsGame}
use Rattle.chip_sequence.specs.Counted.{game_from}
use Rattle.chip_sequence.specs.Play.{IsPlayed}
use Rattle.chip_library.specs.EdgeLists.{graph_of}
use Rattle.chip_library.specs.Claims.{IsClaim}
use Rattle.chip_library.proofs.claims.verify_watched.Goals as goal

pub returns-in-Some : goal.returns-in-Some
returns-in-Some g c =
    let is : c.in_ok-game.game ≡ game_from (graph_of c.args.edges) c.args.chips.now c.args.limit = c.in_ok-game.ensures.0
    ∙ ap (λ (G : Multigraph). game_from G c.args.chips.now c.args.limit) c.in_ok-graph.ensures.0 in
    let claim : IsClaim c.args.edges c.args.chips.now c.args.fired.now c.args.ends.now = search rules in
    let played = subst (λ (g : ChipGame). IsPlayed g c.in_ok-outcome.outcome) is c.in_ok-outcome.ensures.played in
    let is_game = subst IsGame is c.in_ok-game.ensures.1 in
    inr (inr (inr (inr (claim, is_game, c.in_ok-outcome.outcome, played, c.in-Some.vertex, refl, c.in-Some.ensures))))

pub returns : goal.returns
returns g c =
    let is : c.in_ok-game.game ≡ game_from (graph_of c.args.edges) c.args.chips.now c.args.limit = c.in_ok-game.ensures.0
    ∙ ap (λ (G : Multigraph). game_from G c.args.chips.now c.args.limit) c.in_ok-graph.ensures.0 in
    let claim : IsClaim c.args.edges c.args.chips.now c.args.fired.now c.args.ends.now = search rules in
    let played = subst (λ (g : ChipGame). IsPlayed g c.in_ok-outcome.outcome) is c.in_ok-outcome.ensures.played in
    let is_game = subst IsGame is c.in_ok-game.ensures.1 in
    (claim, is_game, c.in_ok-outcome.outcome, played, c.in-None.ensures)
