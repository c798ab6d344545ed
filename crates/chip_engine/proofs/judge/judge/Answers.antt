use Rattle.std.proofs.Common.{ℕ, List, Result, Ok, Err, inr}
use Rattle.chip_command.specs.CommandAnswers.{Spec, bind, GivesAnswer}
use Rattle.chip_command.specs.declared.answer.Answer.{Answer}
use Rattle.chip_command.specs.declared.fault.Fault.{Fault}
use Rattle.chip_command.proofs.InputLemmas.{at_some}
use Rattle.chip_engine.specs.JudgeCommand.{judging}
use Rattle.chip_engine.proofs.judge.judge.Goals as goal

-- what follows from the result of a computation
follows : {A : Type 0} (first : Spec A) (a : A) (next : A → Spec (List ℕ × ℕ)) (result : Result Answer Fault)
    → first.gives a → GivesAnswer (next a) result → GivesAnswer (bind first next) result
follows first a next (Ok answer) given gives = (a, given, gives)
follows first a next (Err fault) given gives = inr (a, given, gives)

pub returns : goal.returns
returns g c = follows _ (c.in_ok-log.log.rows.items, c.in_ok-log.log.sizes) (λ (rows, _). judging c.args.options rows)
    c.judge_rows.result
    (λ text is. at_some _ _ text is c.in_ok-log.ensures.reads.means, c.in_ok-log.ensures.well_formed) (rw c.deref.ensures.value at c.judge_rows.ensures)
