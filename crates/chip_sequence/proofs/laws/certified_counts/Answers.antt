use Rattle.chip_sequence.proofs.CertificateLemmas.{certified_counts}
use Rattle.chip_sequence.proofs.laws.certified_counts.Goals as goal

pub returns : goal.returns
returns c G x limit good = certified_counts G good x limit
