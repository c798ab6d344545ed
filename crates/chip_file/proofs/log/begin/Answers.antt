use Rattle.chip_file.proofs.LogLemmas.{begins_noted}
use Rattle.chip_file.proofs.log.begin.Goals as goal

pub returns : goal.returns
returns c = λ log are.
    begins_noted log c.args.row c.begins_active-begins.result _ _ are (cc) c.in_ok-note.ensures.notes c.in_ok-note.ensures.extends
