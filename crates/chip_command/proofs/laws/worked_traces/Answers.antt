use Rattle.std.proofs.Common.{refl}
use Rattle.std.specs.Fmt.{digits}
use Rattle.csv.proofs.OnLiterals.{csv_on_literals}
use Rattle.csv.specs.Records.{field_at}
use Rattle.chip_command.proofs.laws.worked_traces.Goals as goal

pub returns : goal.returns
unfolding digits csv_on_literals field_at
returns c = (refl, refl)
