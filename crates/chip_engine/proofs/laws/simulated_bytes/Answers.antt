use Rattle.chip_engine.proofs.SameLemmas as same
use Rattle.chip_engine.proofs.laws.simulated_bytes.Goals as goal

pub returns : goal.returns
returns c = same.simulated_bytes
