use Rattle.chip_report.proofs.ReportLemmas.{round_trip}
use Rattle.chip_report.proofs.laws.round_trip.Goals as goal

pub returns : goal.returns
returns c = round_trip
