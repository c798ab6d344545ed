use Rattle.chip_sequence.proofs.StageLemmas.{stages_add_up, played_is_stage}
use Rattle.chip_sequence.proofs.laws.stages.Goals as goal

pub returns-clause-add_up : goal.returns-clause-add_up
returns-clause-add_up c = stages_add_up

pub returns-clause-played : goal.returns-clause-played
returns-clause-played c = played_is_stage
