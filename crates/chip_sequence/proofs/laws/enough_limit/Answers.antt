use Rattle.chip_sequence.proofs.BoundLemmas.{enough_law}
use Rattle.chip_sequence.proofs.laws.enough_limit.Goals as goal

pub returns : goal.returns
returns c G x good distance limit far = enough_law G good x distance far.greatest limit
