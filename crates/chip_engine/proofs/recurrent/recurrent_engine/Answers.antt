use Rattle.std.proofs.Common.{inl, inr}
use Rattle.chip_command.proofs.CommandLemmas.{refused, delivered}
use Rattle.chip_engine.proofs.recurrent.recurrent_engine.Goals as goal

pub returns-in_err-game : goal.returns-in_err-game
returns-in_err-game g c = refused _ c.from_residual.ensures.1 (inl c.in_err-game.ensures)

pub returns-in_err-answer : goal.returns-in_err-answer
returns-in_err-answer g c = refused _ c.from_residual-in_err-answer.ensures.1
    (inr (c.in_ok-game.game, c.in_ok-game.ensures, c.in_err-answer.ensures))

pub returns : goal.returns
returns g c = delivered _ _ c.deliver.ensures (c.in_ok-game.game, c.in_ok-game.ensures, c.in_ok-answer.ensures)
