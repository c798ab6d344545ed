-- The words that the proofs of this crate take from elsewhere, in one place. Declares nothing.
pub use Rattle.std.proofs.Common.{◌≡◌, ◌≢◌, ℕ, ◌+◌, ◌≤◌, ◌<◌, Bool, true, false, eqb, List, [], ◌∷◌, ◌++◌, length}
pub use Rattle.std.proofs.Common.{get_or, refl, sym, ap, ◌∙◌, subst, arith, cond, eq-eqb, append-nil, length-set, ◌-◌}
pub use Rattle.std.proofs.Common.{◌^◌, append_assoc, take, drop, suc, length-append, length-drop, inl, inr, zero, ◌*◌}
pub use Rattle.std.proofs.Common.{map, set, replicate, rules, length-take, below_more}
pub use Rattle.std.proofs.Math.Seq.{take-append_seam}
pub use Rattle.std.proofs.lemmas.Bool.{ltb-true, ltb-false, ne_eqb}
pub use Rattle.std.proofs.lemmas.List.{get_or-set_other, get_or_past, take_more, take-append-drop}
pub use Rattle.std.proofs.lemmas.List.{append_cancel_left, get_or-map, length-map, map-append, take_all, take-append-le}
pub use Rattle.std.proofs.lemmas.List.{drop_more, nil_from_length, map-set, get_or-replicate, length-replicate, get_or_default, drop_all}
pub use Rattle.std.proofs.lemmas.List.Elements.{All-head, All-tail, All-get_or, All-push, All-nil}
pub use Rattle.std.proofs.lemmas.List.Elements.{All-cons, All-weaker, All-append, All-map}
pub use Rattle.std.proofs.lemmas.List.Folds.{Any-from_list_any, list_any_at}
pub use Rattle.std.proofs.lemmas.List.Sorted.{IsPermutation-map, All-permutation, sum_by-IsPermutation}
pub use Rattle.std.proofs.lemmas.List.Sorted.{IsNonDecreasingBy-from_sort_by_key}
pub use Rattle.std.proofs.lemmas.List.Sums.{sum_by-le, sum_by_push, sum_by-cons, get_or-le-sum_by}
pub use Rattle.std.proofs.lemmas.Option.{get_or_from_slice_get, slice_get_within, slice_get-get_or}
pub use Rattle.std.specs.List.{list_any}
pub use Rattle.std.specs.List.Sorted.{IsNonDecreasingBy}
pub use Rattle.std.specs.Option.{ForSome}
pub use Rattle.std.specs.Prelude.{◌||◌, nat_lt, slice_index_or, ◌&&◌, not, slice_set, Option, Some, None, MatchBool}
pub use Rattle.std.specs.Prelude.{option_map, is_some}
pub use Rattle.std.specs.Prelude.{All, ◌⊎◌, AllPairs, ◌==◌, count_by, sum_by, slice_get, IsPermutation}
pub use mathlib.Core.Logic.{dite}
pub use native.Mathlib.Decide.{ℕ_discrete, dec_lt}
pub use Rattle.chip_log.specs.Agenda.{AgendaState}
pub use Rattle.chip_log.specs.Books.{said_before, said_of, Passes, rows_at, said_at, is_message_needed, is_needed}
pub use Rattle.chip_log.specs.Books.{KeepsRow, IsOf, said_by, HasMakeRoom, HasFlightRoom, HasCountRoom}
pub use Rattle.chip_log.specs.Books.{HasKeepRoom, HasRoomForRow}
pub use Rattle.chip_log.specs.Claims.{basic, IsQuiet, IsPast, IsVerdict, IsInTransit, IsBusy, IsQuiescentAfter}
pub use Rattle.chip_log.specs.Claims.{IsBefore, IsRight}
pub use Rattle.chip_log.specs.Judge.{stream_of, NoWay, IsFirstWay, first_step, begins_with, AreBeginners, busy_at}
pub use Rattle.chip_log.specs.Judge.{is_busy, IsLeftOver, AreCounts, place_at, ArePlaces, IsKnown, Judges, has_row_at}
pub use Rattle.chip_log.specs.Judged.{AreRowsOf, IsOpenEnd, is_over, is_over_at, is_claim, RowPlace, is_at, IsNoLater}
pub use Rattle.chip_log.specs.Judged.{is_early, IsJudged, NoneRight, IsEnd, claim_place, AreClaims, AreJudged, control}
pub use Rattle.chip_log.specs.Judged.{IsJudgedLog, rows_for, told_of, AreShown}
pub use Rattle.chip_log.specs.First.{IsSooner, IsFirst, IsFirstEarly, IsFirstAbsent}
pub use Rattle.chip_log.specs.Log.{steps_of, is_out, outs, ins, HasEnds, same_stream, sends, gets, count_steps}
pub use Rattle.chip_log.specs.Log.{count_rows}
pub use Rattle.std.proofs.lemmas.Bool.Decides.{nat_tests}
pub use Rattle.std.proofs.lemmas.Grind.{get_or-set_at}
pub use Rattle.chip_log.specs.Log.{active_after, begins_active, is_active, is_in, is_enabled, AreEnabled, IsInterleaving}
pub use Rattle.chip_log.specs.Order.{IsWellFormed, IsProgress, IsMaximal, IsStuck, may_send, AreSent}
pub use Rattle.chip_log.specs.Ordering.{is_there, IsReady, Reads, IsOrderKept, OrderGoesOn, IsOrderBlocked, IsFirstLeft, IsNextStep, MakesNextStep}
pub use Rattle.chip_log.specs.Ordering.{order_work_left}
pub use Rattle.chip_log.specs.Past.{IsInOrder, AreInFlight, AreKept, AreBooksOf, IsLog, Fits, FitsRow, AreSized, IsPastOf, IsPlace}
pub use Rattle.chip_log.specs.Places.{AreFound}
pub use Rattle.chip_log.specs.Queues.{queue_of, total, step_in_front}
pub use Rattle.chip_log.specs.Tally.{TallyState, count}
pub use Rattle.chip_log.specs.declared.books.Books.{Books}
pub use Rattle.chip_log.specs.declared.books.Said.{Said}
pub use Rattle.chip_log.specs.declared.judged.ClaimVerdict.{ClaimVerdict}
pub use Rattle.chip_log.specs.declared.judged.JudgedLog.{JudgedLog}
pub use Rattle.chip_log.specs.declared.judged.LogEnd.{LogEnd}
pub use Rattle.chip_log.specs.declared.judged.PastRows.{PastRows}
pub use Rattle.chip_log.specs.declared.order.Order.{Order}
pub use Rattle.chip_log.specs.declared.past.ClaimPlace.{ClaimPlace}
pub use Rattle.chip_log.specs.declared.past.Sizes.{Sizes}
pub use Rattle.chip_log.specs.declared.row.LogRow.{LogRow}
pub use Rattle.chip_log.specs.declared.row.Step.{Step}
pub use Rattle.chip_log.specs.declared.row.Step.TheVariants.{Out, In, Passive, Active, Over}
pub use Rattle.chip_log.specs.declared.row.Stream.{Stream}
pub use Rattle.chip_log.specs.declared.verdict.Verdict.{Verdict}
