use Rattle.chip_file.proofs.Names.{refl, sym}
use Rattle.chip_file.proofs.LogLemmas.{no_holder}
use Rattle.chip_file.proofs.log.LogSoFar.may_hold.Goals as goal

pub returns-in-None : goal.returns-in-None
returns-in-None c = λ log is. rw (no_holder c.args.row.step log (sym c.in-None.ensures)) refl
