use Rattle.chip_report.proofs.ReportTwoLemmas.{one_stage, round_trip_two, not_both}
use Rattle.chip_report.proofs.laws.stages.Goals as goal

pub returns-clause-one_stage : goal.returns-clause-one_stage
returns-clause-one_stage c = one_stage

pub returns-clause-round_trip : goal.returns-clause-round_trip
returns-clause-round_trip c = round_trip_two

pub returns-clause-not_both : goal.returns-clause-not_both
returns-clause-not_both c = not_both
