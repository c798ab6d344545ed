-- The words that the proofs of this crate take from elsewhere, in one place. Declares nothing.
pub use Rattle.std.proofs.Common.{◌≡◌, ℕ, ◌<◌, ◌≤◌, true, false, List, [], ◌∷◌, ◌++◌, length, refl, sym, ap, ◌∙◌, arith}
pub use Rattle.std.proofs.Common.{append_assoc, append-nil, length-append, Some, ◌≢◌, zero, suc, ◌+◌, ◌-◌, ◌*◌, ◌^◌}
pub use Rattle.std.proofs.Common.{take, set, get_or, replicate, cond, map, eq-eqb, slice_get, slice_index, Option}
pub use Rattle.std.proofs.Common.{nat_lt, drop, add-one, ◌==◌, nat_le, not, ◌&&◌, Bool, inl, inr, subst, None, ◌⊎◌, All}
pub use Rattle.std.proofs.Common.{rules, string_bytes, Err}
pub use Rattle.std.proofs.Math.ListN.{length-set}
pub use Rattle.std.proofs.Math.Nat.{mul-le-mul_left}
pub use Rattle.std.proofs.Math.Seq.{take-append_seam}
pub use Rattle.std.proofs.lemmas.Bool.{and_parts, and_from, lt-ltb, le-ltb}
pub use Rattle.std.proofs.lemmas.Bool.Decides.{nat_tests}
pub use Rattle.std.proofs.lemmas.List.{get_or-set_same, get_or-set_other, length-replicate, take-append-le}
pub use Rattle.std.proofs.lemmas.List.{take-append-drop, take_more, map-append, take_all, get_or_past, length-take-le}
pub use Rattle.std.proofs.lemmas.List.{length-map, get_or-map}
pub use Rattle.std.proofs.lemmas.Option.{slice_get_within, get_or_from_slice_get}
pub use borrow.Author.Count.{below_more}
pub use mathlib.Core.Logic.{dite}
pub use native.Mathlib.Decide.{ℕ_discrete, dec_lt}
pub use Rattle.chip_graph.proofs.SumLemmas.{cond_yes, sum_below_move, by_test}
pub use Rattle.chip_graph.specs.ChipGame.{ChipGame}
pub use Rattle.chip_graph.specs.Edges.{edge_head, edges_and_roots}
pub use Rattle.chip_graph.specs.Limits.{max_limit}
pub use Rattle.chip_graph.specs.Multigraph.{Multigraph, edge_at, degree}
pub use Rattle.chip_graph.specs.Sums.{sum_below, filter_below}
pub use Rattle.chip_link.specs.declared.trace.TraceRow.{TraceRow}
pub use Rattle.chip_link.specs.declared.trace.TraceRow.TheVariants.{Take, Fire}
pub use Rattle.chip_report.specs.Sink.{bytes_out}
pub use Rattle.chip_trace.specs.Agenda.{ReplayAgenda}
pub use Rattle.chip_trace.specs.Interleaving.{is_row_enabled, Placed, rows_of, AreRowsEnabled, trace_of, IsPartial, IsInterleaving}
pub use Rattle.chip_trace.specs.Interleaving.{takes_of, goes_into, with_firing, fires, opening, messages, next_message}
pub use Rattle.chip_trace.specs.Interleaving.{has_count, chips_taken, row_firings}
pub use Rattle.chip_trace.specs.Kept.{runner_at, rows_used, IsReplayReached, IsReplayKept, MayUse, UsesRow, rows_left, row_after}
pub use Rattle.chip_trace.specs.Kept.{kept_fires, kept_chips, kept_taken, kept_edges, kept_vertices, kept_left}
pub use Rattle.chip_trace.specs.Kept.{work_left, ReplayGoesOn, IsReplayBlocked, IsWrongAt, IsUnusedAt, NoneBelow, IsToBlame, Finds}
pub use Rattle.chip_trace.specs.Left.{messages_left, chips_held, legal_left, left_of, left_after}
pub use Rattle.chip_trace.specs.Progress.{next_row, IsGreatestProgress, is_wrong, HasWrongRow, HasUnusedRow, IsLeast}
pub use Rattle.chip_trace.specs.Progress.{IsBlamed, IsStuck}
pub use Rattle.chip_trace.specs.Replay.{IsReplayed}
pub use Rattle.chip_trace.specs.Runner.{RunnerState, at_start, runner_of}
pub use Rattle.chip_trace.specs.TraceText.{trace_row_text, trace_rows_text, lines_from, header, WritesText}
pub use Rattle.chip_trace.specs.declared.look.Finding.{Finding}
pub use Rattle.chip_trace.specs.declared.progress.ReplayProgress.{ReplayProgress}
pub use Rattle.chip_trace.specs.declared.remaining.Left.{Left}
pub use Rattle.chip_trace.specs.declared.remaining.Left.TheVariants.{Messages, CanFire, AtLimit}
pub use Rattle.chip_trace.specs.declared.replaying.Replayed.{Replayed}
