use Rattle.chip_sequence.proofs.CertificateLemmas.{end_of_the_way}
use Rattle.chip_sequence.proofs.laws.end_of_the_way.Goals as goal

pub returns : goal.returns
returns c = end_of_the_way
