use Rattle.chip_run.proofs.RunLemmas as same
use Rattle.chip_run.proofs.laws.first_stage.Goals as goal

pub returns : goal.returns
returns c = same.run_tells_play
