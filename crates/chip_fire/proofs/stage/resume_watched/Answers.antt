use Rattle.std.proofs.Common.{◌≡◌, ℕ, List, ◌∙◌, ap, subst}
use Rattle.chip_graph.specs.ChipGame.{ChipGame, IsGame}
use Rattle.chip_sequence.specs.Play.{IsPlayed}
use Rattle.chip_sequence.specs.Resume.{game_from}
use Rattle.chip_fire.proofs.ResumeLemmas.{goes_on, still_leads}
use Rattle.chip_fire.proofs.stage.resume_watched.Goals as goal

pub returns-clause-answer : goal.returns-clause-answer
returns-clause-answer g c =
    let start : c.in_ok-start.start.items ≡ c.args.earlier.now.outcome.chips.items = c.in_ok-start.ensures.items
    ∙ c.deref.ensures.value in
    let is : c.in_ok-game.game ≡ game_from c.args.graph c.args.earlier.now c.args.limit = c.in_ok-game.ensures.0
    ∙ ap (λ (l : List ℕ). record { graph = c.args.graph; start = l; limit = c.args.limit }) start in
    goes_on c.args.graph c.args.earlier.now _ c.args.limit c.requires c.in_ok-prior.ensures.ok.0
    c.in_ok-prior.ensures.ok.1
    (subst (λ (g : ChipGame). IsGame g) (c.game.view_is ∙ is) c.game.invariant.game)
    (subst (λ (g : ChipGame). IsPlayed g c.in_ok-outcome.outcome) is c.in_ok-outcome.ensures.played)
    c.in_ok-outcome.ensures.in_range

pub returns-clause-goes_on : goal.returns-clause-goes_on
returns-clause-goes_on g c =
    still_leads c.args.graph c.args.earlier.now _ c.args.limit c.requires c.in_ok-prior.ensures.ok.0
    c.in_ok-prior.ensures.ok.1
    (returns-clause-answer g c)
