use Rattle.chip_core.proofs.LogLemmas.{part_kept}
use Rattle.chip_core.proofs.NumberLemmas.{fits_seen, root_fits}
use Rattle.chip_core.proofs.laws.parts.Goals as goal

pub returns : goal.returns
returns c = record { kept = λ g game some_ring. part_kept g game; seen = fits_seen; root_seen = root_fits }
