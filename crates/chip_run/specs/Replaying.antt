-- The rows of a run as one list, and their interleaving.
use Rattle.std.specs.Prelude.{◌≡◌, ◌⊎◌, ℕ, ◌<◌, ◌≤◌, ◌==◌, if◌then◌else◌, Bool, List, [], ◌∷◌, ◌++◌, map, sum_by, slice_index, Option}
use Rattle.std.specs.List.{range_with_len}
use Rattle.std.specs.Io.KnownBytes.{Appends}
use Rattle.chip_graph.specs.ChipGame.{ChipGame}
use Rattle.chip_graph.specs.More.{brought_to}
use Rattle.chip_link.specs.Link.{claims_of}
use Rattle.chip_link.specs.declared.trace.TraceRow.{TraceRow}
use Rattle.chip_sequence.specs.declared.outcome.Outcome.{Outcome}
use Rattle.chip_report.specs.ReportText.{report_text}
use Rattle.chip_part.specs.Setting.{Setting}
use Rattle.chip_core.specs.Core.{Log, part_of, out_in, root_edge}
use Rattle.chip_core.specs.Histories.{done_by}
use Rattle.chip_net.specs.Tokens.{ActorKnown}
use Rattle.chip_net.specs.Traces.{row_of, trace_rows_of}
use Rattle.chip_trace.specs.Interleaving.{Placed, IsInterleaving, row_firings}
use Rattle.chip_trace.specs.TraceText.{trace_text}
use Rattle.chip_run.specs.Recording.{RecordsIfAsked}
use Rattle.chip_run.specs.RunCommand.{Outputs}

-- a row of v
abbrev pub row_at_vertex : ℕ → TraceRow → Placed
row_at_vertex v row = record { vertex = v; row = row }

-- all rows of a log in its order, each with the vertex that recorded it
abbrev pub rows_in : Setting → Log → List Placed
rows_in g [] = []
rows_in g (x ∷ log) = rows_in g log ++ map (row_at_vertex (part_of g x.event)) (row_of x.event x.seen)

-- what each vertex recorded in a log
abbrev pub traces_in : Setting → Log → List (List TraceRow)
traces_in g log = map (λ v. trace_rows_of (done_by g v log)) (range_with_len 0 g.game.graph.vertices)

-- on each root edge at most one message was sent: no vertex was given chips more than once
abbrev pub HasOneEach : Setting → Log → Type 0
HasOneEach g log = (v : ℕ) → v < g.game.graph.vertices → claims_of (out_in g log (root_edge g v)).link ≤ 1

-- no vertex both starts with chips and is fed some
abbrev pub AreGivenOnce : ChipGame → List (ℕ × ℕ) → Type 0
AreGivenOnce g feeds = (v : ℕ) → v < g.graph.vertices → (slice_index g.start v ≡ 0) ⊎ (brought_to feeds v ≡ 0)

-- all rows of these actors, those without room too
abbrev pub all_rows : List ActorKnown → List (List TraceRow)
all_rows actors = map (λ a. trace_rows_of a.did) actors

-- how often v fires in these firings
abbrev pub times_of : ℕ → List (ℕ × ℕ) → ℕ
times_of v fired = sum_by (λ firing. if firing.0 == v then firing.1 else 0) fired

-- these traces have an interleaving in which each vertex fires as often as in this outcome
pub record FitTogether (g : ChipGame) (traces : List (List TraceRow)) (o : Outcome) : Type 0 where
  pub rows : List Placed
  pub interleaving : IsInterleaving g traces rows
  pub fired : (v : ℕ) → times_of v (row_firings rows) ≡ slice_index o.fired.items v

-- a report was written, and a trace if asked: all rows of the actors, cut or not, have an interleaving, with the counts
-- of the report
pub record WritesOneRun (g : ChipGame) (old new : Outputs) (cut : Bool) : Type 0 where
  pub actors : List ActorKnown
  pub outcome : Outcome
  pub fit : FitTogether g (all_rows actors) outcome
  pub report : Appends old.report new.report (report_text outcome)
  pub trace : RecordsIfAsked actors old.trace new.trace cut

-- a report was written, and a trace: its rows have an interleaving, with the counts of the report
pub record WritesFitting (g : ChipGame) (old_report new_report old_trace new_trace : Option (List ℕ)) : Type 0 where
  pub traces : List (List TraceRow)
  pub outcome : Outcome
  pub fit : FitTogether g traces outcome
  pub report : Appends old_report new_report (report_text outcome)
  pub trace : Appends old_trace new_trace (trace_text traces)
