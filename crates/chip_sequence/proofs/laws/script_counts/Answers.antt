use Rattle.chip_sequence.proofs.CertificateLemmas.{script_counts}
use Rattle.chip_sequence.proofs.laws.script_counts.Goals as goal

pub returns : goal.returns
returns c = script_counts
