use Rattle.std.proofs.Common.{inl}
use Rattle.chip_command.proofs.CommandLemmas.{refused, delivered}
use Rattle.chip_command.proofs.OneReportLemmas.{plain_writes}
use Rattle.chip_engine.proofs.plain.plain_engine_with.Goals as goal

pub returns-in_err-game-clause-known : goal.returns-in_err-game-clause-known
returns-in_err-game-clause-known g c = refused _ c.from_residual.ensures.1 (inl c.in_err-game.ensures)

pub returns-in_err-game-clause-report : goal.returns-in_err-game-clause-report
returns-in_err-game-clause-report g c = plain_writes _ _ _ _ _ _ _ (returns-in_err-game-clause-known g c)

pub returns-clause-known : goal.returns-clause-known
returns-clause-known g c = delivered _ _ c.deliver.ensures
    (c.in_ok-game.game, c.in_ok-game.ensures, c.in_ok-answer.ensures)

pub returns-clause-report : goal.returns-clause-report
returns-clause-report g c = plain_writes _ _ _ _ _ _ _ (returns-clause-known g c)
