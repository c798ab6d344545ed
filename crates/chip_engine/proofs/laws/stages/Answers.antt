use Rattle.chip_engine.proofs.ChainLemmas.{plain_tells_play, simulate_tells_play, resumed_plays_add_up}
use Rattle.chip_engine.proofs.laws.stages.Goals as goal

pub returns-clause-plain : goal.returns-clause-plain
returns-clause-plain c = plain_tells_play

pub returns-clause-simulate : goal.returns-clause-simulate
returns-clause-simulate c = simulate_tells_play

pub returns-clause-resume : goal.returns-clause-resume
returns-clause-resume c = resumed_plays_add_up
