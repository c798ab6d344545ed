use Rattle.chip_file.proofs.Names.{sym}
use Rattle.chip_file.proofs.LogLemmas.{holders_noted, holders_kept}
use Rattle.chip_file.proofs.log.hold.Goals as goal

pub returns-in_ok-note-in-Some : goal.returns-in_ok-note-in-Some
returns-in_ok-note-in-Some c = λ log are free.
    holders_noted log c.args.row c.in-Some.end _ _ are (sym c.in-Some.ensures) c.in_ok-note-in-Some.ensures.notes free

pub returns-in-None : goal.returns-in-None
returns-in-None c = λ log are free. holders_kept log c.args.row _ are (sym c.in-None.ensures)
