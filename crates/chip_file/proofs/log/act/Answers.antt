use Rattle.chip_file.proofs.LogLemmas.{active_noted}
use Rattle.chip_file.proofs.log.act.Goals as goal

pub returns : goal.returns
returns c = λ log are may. active_noted log c.args.row c.next_activity-now.result _ _ are may (cc) c.in_ok-note.ensures.notes
