use Rattle.std.proofs.Common.{inl, inr}
use Rattle.chip_command.proofs.CommandLemmas.{refused, delivered}
use Rattle.chip_engine.proofs.GuessLemmas.{guess_writes}
use Rattle.chip_engine.proofs.plain.plain_guess_engine_with.Goals as goal

pub returns-in_err-game-clause-known : goal.returns-in_err-game-clause-known
returns-in_err-game-clause-known g c = refused _ c.from_residual.ensures.1 (inl c.in_err-game.ensures)

pub returns-in_err-game-clause-report : goal.returns-in_err-game-clause-report
returns-in_err-game-clause-report g c = guess_writes _ _ _ _ _ _ _ _ (returns-in_err-game-clause-known g c)

pub returns-in_err-counts-clause-known : goal.returns-in_err-counts-clause-known
returns-in_err-counts-clause-known g c = refused _ c.from_residual-in_err-counts.ensures.1 (inr (
  c.in_ok-game.game,
  c.in_ok-game.ensures,
  inl (rw (c.vertices.ensures.value, c.graph.ensures.value) at c.in_err-counts.ensures),
))

pub returns-in_err-counts-clause-report : goal.returns-in_err-counts-clause-report
returns-in_err-counts-clause-report g c = guess_writes _ _ _ _ _ _ _ _ (returns-in_err-counts-clause-known g c)

pub returns-in_err-answer-clause-known : goal.returns-in_err-answer-clause-known
returns-in_err-answer-clause-known g c = refused _ c.from_residual-in_err-answer.ensures.1 (inr (
  c.in_ok-game.game,
  c.in_ok-game.ensures,
  inr (
    c.in_ok-counts.counts,
    rw (c.vertices.ensures.value, c.graph.ensures.value) at c.in_ok-counts.ensures,
    c.in_err-answer.ensures,
  ),
))

pub returns-in_err-answer-clause-report : goal.returns-in_err-answer-clause-report
returns-in_err-answer-clause-report g c = guess_writes _ _ _ _ _ _ _ _ (returns-in_err-answer-clause-known g c)

pub returns-clause-known : goal.returns-clause-known
returns-clause-known g c = delivered _ _ c.deliver.ensures (
  c.in_ok-game.game,
  c.in_ok-game.ensures,
  (
    c.in_ok-counts.counts,
    rw (c.vertices.ensures.value, c.graph.ensures.value) at c.in_ok-counts.ensures,
    c.in_ok-answer.ensures,
  ),
)

pub returns-clause-report : goal.returns-clause-report
returns-clause-report g c = guess_writes _ _ _ _ _ _ _ _ (returns-clause-known g c)
