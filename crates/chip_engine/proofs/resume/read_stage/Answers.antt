use Rattle.std.proofs.Common.{◌∙◌}
use Rattle.chip_command.proofs.CommandLemmas.{handed_on}
use Rattle.chip_command.proofs.InputLemmas.{at_some}
use Rattle.chip_engine.proofs.StageLemmas.{refused_report}
use Rattle.chip_engine.proofs.resume.read_stage.Goals as goal

pub returns-in_err-read_any_within : goal.returns-in_err-read_any_within
returns-in_err-read_any_within g c = rw (handed_on _ c.from_residual-in_err-read_any_within.ensures.1) (λ text text_is.
    let read = at_some _ _ text text_is c.in_ok-text.ensures.known in
    refused_report c.args.limits text _ read.0
    (rw (c.deref.ensures.value ∙ read.1) at c.in_err-read_any_within.ensures.stage))
