use Rattle.chip_file.proofs.WrittenLemmas.{written_chips}
use Rattle.chip_file.proofs.laws.written_chips.Goals as goal

pub returns : goal.returns
returns c = written_chips
