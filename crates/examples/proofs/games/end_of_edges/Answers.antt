use Rattle.std.proofs.Common.{◌∙◌, ap, subst, IfSome}
use Rattle.std.specs.Result.{result_ok}
use Rattle.chip_graph.specs.Multigraph.{Multigraph}
use Rattle.chip_graph.specs.ChipGame.{ChipGame}
use Rattle.chip_sequence.specs.Counted.{game_from}
use Rattle.chip_sequence.specs.declared.outcome.Outcome.{Outcome}
use Rattle.examples.specs.Answers.{IsEveryEnd}
use Rattle.examples.proofs.EndLemmas.{end_if_some}
use Rattle.examples.proofs.games.end_of_edges.Goals as goal

pub returns : goal.returns
returns c =
    let is = c.in-Ok-new.ensures.0
    ∙ ap (λ (G : Multigraph). game_from G c.args.start.items c.args.limit) c.in-Ok.ensures.0 in
    rw c.ok.ensures.value (subst (λ (g : ChipGame). IfSome (result_ok c.plain.result)
    (λ (o : Outcome). IsEveryEnd g o.fired.items o.chips.items)) is (end_if_some _ c.plain.result c.plain.ensures))
