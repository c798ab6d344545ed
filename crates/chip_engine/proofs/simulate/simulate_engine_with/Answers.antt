use Rattle.std.proofs.Common.{inl, inr, refl}
use Rattle.chip_command.proofs.CommandLemmas.{refused, delivered}
use Rattle.chip_command.proofs.InputLemmas.{known, unread}
use Rattle.chip_engine.proofs.SimulateLemmas.{simulate_reports}
use Rattle.chip_engine.proofs.simulate.simulate_engine_with.Goals as goal

pub returns-in_err-game-clause-known : goal.returns-in_err-game-clause-known
returns-in_err-game-clause-known g c = refused _ c.from_residual.ensures.1 (inl c.in_err-game.ensures)

pub returns-in_err-events-clause-known : goal.returns-in_err-events-clause-known
returns-in_err-events-clause-known g c = refused _ c.from_residual-in_err-events.ensures.1
    (inr (c.in_ok-game.game, c.in_ok-game.ensures, inl (rw c.graph.ensures.value at (unread c.in_err-events.ensures))))

pub returns-in_err-answer-clause-known : goal.returns-in_err-answer-clause-known
returns-in_err-answer-clause-known g c = refused _ c.from_residual-in_err-answer.ensures.1 (inr (
  c.in_ok-game.game,
  c.in_ok-game.ensures,
  inr (c.in_ok-events.events.items, rw c.graph.ensures.value at (known c.in_ok-events.ensures), refl),
))

pub returns-clause-known : goal.returns-clause-known
returns-clause-known g c = delivered _ _ c.deliver.ensures (
  c.in_ok-game.game,
  c.in_ok-game.ensures,
  (
    c.in_ok-events.events.items,
    rw c.graph.ensures.value at (known c.in_ok-events.ensures),
    rw c.new-setting.ensures at c.in_ok-answer.ensures,
  ),
)

pub returns-in_err-game-clause-report : goal.returns-in_err-game-clause-report
returns-in_err-game-clause-report g c = simulate_reports _ _ _ _ _ _ _ (returns-in_err-game-clause-known g c)

pub returns-in_err-events-clause-report : goal.returns-in_err-events-clause-report
returns-in_err-events-clause-report g c = simulate_reports _ _ _ _ _ _ _ (returns-in_err-events-clause-known g c)

pub returns-in_err-answer-clause-report : goal.returns-in_err-answer-clause-report
returns-in_err-answer-clause-report g c = simulate_reports _ _ _ _ _ _ _ (returns-in_err-answer-clause-known g c)

pub returns-clause-report : goal.returns-clause-report
returns-clause-report g c = simulate_reports _ _ _ _ _ _ _ (returns-clause-known g c)
