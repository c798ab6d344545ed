use Rattle.chip_diffusing.proofs.DueLemmas.{never_stuck, not_over_yet, few_are_left}
use Rattle.chip_diffusing.proofs.laws.endings.Goals as goal

pub returns-clause-never_stuck : goal.returns-clause-never_stuck
returns-clause-never_stuck c = never_stuck

pub returns-clause-few_are_left : goal.returns-clause-few_are_left
returns-clause-few_are_left c = few_are_left

pub returns-clause-not_over_yet : goal.returns-clause-not_over_yet
returns-clause-not_over_yet c = not_over_yet
