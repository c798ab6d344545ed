use Rattle.chip_sequence.proofs.BoundLemmas.{ends, same_ends}
use Rattle.chip_sequence.proofs.laws.abelian_property.Goals as goal

pub returns : goal.returns
returns c G x good = (ends G good x, same_ends G good x)
