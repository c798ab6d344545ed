use Rattle.chip_sequence.proofs.CertificateLemmas.{playing_on}
use Rattle.chip_sequence.proofs.laws.playing_on.Goals as goal

pub returns : goal.returns
returns c = playing_on
