use Rattle.std.proofs.Common.{sym}
use Rattle.chip_command.proofs.InputLemmas.{at_some}
use Rattle.chip_engine.specs.GuessCommand.{MeansGuess}
use Rattle.chip_engine.proofs.GuessLemmas.{at_text, told_guess}
use Rattle.chip_engine.proofs.guess.read_guess.Goals as goal

pub returns-then-has_brace : goal.returns-then-has_brace
returns-then-has_brace g c = told_guess c.args.limits c.args.vertices (g.R.Read.remaining c.args.guess.now)
    c.in_ok-text.text.items (λ text is. at_some _ _ text is c.in_ok-text.ensures.known)
    (rw c.deref.ensures.value at (sym c.if-has_brace.ensures)) c.counts_of_report.result
    (rw c.deref-then-has_brace.ensures.value at c.counts_of_report.ensures)

pub returns : goal.returns
returns g c = at_text c.args.limits (g.R.Read.remaining c.args.guess.now) c.in_ok-text.text.items
    (λ text is. at_some _ _ text is c.in_ok-text.ensures.known)
    (λ text. MeansGuess c.args.limits c.args.vertices text c.in_ok-guess_of_text.field-0.items) (record {
      report = λ brace. let rows = rw c.deref.ensures.value at (sym c.if-has_brace.ensures) in absurd (cc);
      rows = λ _. rw c.deref-else-has_brace.ensures.value at c.in_ok-guess_of_text.ensures;
    })
