-- Serves SimulatedBytes.antt.
-- The report of a simulation is the one that `plain` writes.
use Rattle.std.proofs.Common.{inl, inr, ⊎_elim}
use Rattle.chip_report.specs.ReportText.{report_text}
use Rattle.chip_command.proofs.OneReportLemmas.{one_report, plain_reports}
use Rattle.chip_engine.specs.SimulatedBytes.{SimulatedBytes}

pub simulated_bytes : SimulatedBytes
simulated_bytes graph_text chips_text schedule_text options out ended did = ⊎_elim inl (λ closed. inr (
  closed,
  (λ none limits graph_text chips_text means report t wrote. one_report closed.whole (report_text closed.outcome)
      report ended.status t (closed.plays none)
      (plain_reports limits graph_text chips_text closed.whole.limit report t closed.whole means wrote)),
)) did.ends
