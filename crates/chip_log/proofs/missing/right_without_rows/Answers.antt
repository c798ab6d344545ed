use Rattle.chip_log.proofs.MissingLemmas.{right_without_rows}
use Rattle.chip_log.proofs.missing.right_without_rows.Goals as goal

pub returns : goal.returns
returns c = right_without_rows
