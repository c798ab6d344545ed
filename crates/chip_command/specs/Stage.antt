-- What a report says of the play that led to it.
use Rattle.std.specs.Prelude.{ℕ, List}
use Rattle.chip_graph.specs.Multigraph.{Multigraph}
use Rattle.chip_sequence.specs.Stages.{IsPlayFrom}
use Rattle.chip_sequence.specs.declared.resumed.Resumed.{Resumed}
use Rattle.chip_report.specs.ReportTwo.{IsAnyReportOf}

-- whichever stage is read from a report, its firings in all lead from the start x to its chips
abbrev pub TellsPlayFrom : Multigraph → (ℕ → ℕ) → List ℕ → Type 0
TellsPlayFrom G x report = (r : Resumed) → IsAnyReportOf report r → IsPlayFrom G x r
