use Rattle.chip_report.proofs.BracketLemmas.{read_number}
use Rattle.chip_report.proofs.lists.number_of.Goals as goal

pub returns : goal.returns
returns c = rw c.ok.ensures.value (read_number c.args.digits.now c.parse.result c.parse.ensures.value.0)
