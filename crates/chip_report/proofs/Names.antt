-- The words that the proofs of this crate take from elsewhere, in one place. Declares nothing.
pub use Rattle.std.proofs.Common.{◌≡◌, ◌≢◌, ℕ, zero, suc, ◌+◌, ◌^◌, ◌<◌, ◌≤◌, Bool, true, false, ◌&&◌, not, nat_lt, eqb}
pub use Rattle.std.proofs.Common.{List, [], ◌∷◌, ◌++◌, length, map, take, drop, get_or, codes, Option, None, Some, Vec}
pub use Rattle.std.proofs.Common.{Global, Result, Ok, Err, inl, inr, refl, ap, ◌∙◌, arith, append_assoc, length-append}
pub use Rattle.std.proofs.Common.{◌⊎◌, All, IsAscii, MatchOption, ok_or, sym, lt-ltb, ltb-true, add-one, Contains}
pub use Rattle.std.proofs.Common.{slice_index, subst, replicate, rules, IsUtf8, lit<, string_bytes, ◌-◌, take-add}
pub use Rattle.std.proofs.Math.Seq.{drop-append-add}
pub use Rattle.std.proofs.lemmas.Bool.{and_parts, eq-eqb, ne_eqb, false≢true, eqb-false}
pub use Rattle.std.proofs.lemmas.Bool.Decides.{nat_tests, Decides-eqb}
pub use Rattle.std.proofs.lemmas.Fn.{always_returns_same}
pub use Rattle.std.proofs.lemmas.Grind.{get_or_default_zero, common_steps}
pub use Rattle.std.proofs.lemmas.Iterator.Consumers.{YieldsList-at, YieldsList-turn, YieldsList-end}
pub use Rattle.std.proofs.lemmas.Iterator.Splits.{YieldsList-from_str_split}
pub use Rattle.std.proofs.lemmas.List.{take_at, get_or_at, get_or_append_left, get_or-map, map-append, length-map}
pub use Rattle.std.proofs.lemmas.List.{length-replicate, append_cancel_right, same_from_push, take_more, length-take-le}
pub use Rattle.std.proofs.lemmas.List.{take_all, length-drop}
pub use Rattle.std.proofs.lemmas.List.Elements.{All-nil, All-cons, All-append, All-from_get_or, All-replicate}
pub use Rattle.std.proofs.lemmas.List.Elements.{Contains-get_or}
pub use Rattle.std.proofs.lemmas.List.Splits.{slice_split_none, slice_split_at}
pub use Rattle.std.proofs.lemmas.List.Sums.{position_or_len_is}
pub use Rattle.std.proofs.lemmas.Slice.Eq.{ends_is, bytes_eq-Decides}
pub use Rattle.std.proofs.lemmas.Str.{IsAscii-append, IsUtf8-from_ascii}
pub use Rattle.std.proofs.lemmas.Str.Ascii.{IsAscii-nil, IsAscii-cons}
pub use Rattle.std.proofs.lemmas.Str.Pattern.{split_once_first}
pub use Rattle.std.specs.Fmt.{decimal}
pub use Rattle.std.specs.Int.{IsInRange}
pub use Rattle.std.specs.Io.KnownBytes.{Appends}
pub use Rattle.std.specs.List.{AllByRecursion, before_first, after_first, position_or_len, slice_split, join_with_byte}
pub use Rattle.std.specs.List.{IsAllAdjacentAnswer}
pub use Rattle.std.specs.List.Sorted.{IsStrictlyIncreasing, IsNonDecreasing, IsBinarySearchResult}
pub use Rattle.std.specs.Ordering.{nat_cmp}
pub use Rattle.std.specs.Result.{result_ok, is_ok, IsErrAnd}
pub use Rattle.std.specs.Str.Parse.{AllDigits, digits_value, ParsesUnsigned}
pub use Rattle.std.specs.Vec.{vec_len}
pub use borrow.Author.Count.{below_more}
pub use denote.Ref.{Bor}
pub use Rattle.chip_graph.specs.Limits.{SizeLimits, max_limit, max_total, max_vertices}
pub use Rattle.chip_sequence.specs.Outcomes.{IsOutcome}
pub use Rattle.chip_sequence.specs.Stages.{IsResumed, max_prior}
pub use Rattle.chip_sequence.specs.declared.outcome.Outcome.{Outcome}
pub use Rattle.chip_sequence.specs.declared.resumed.Resumed.{Resumed}
pub use Rattle.chip_report.specs.Laws.{RoundTrip, RoundTripTwo}
pub use Rattle.chip_report.specs.OutcomeParts.{AreDisjoint, AreReportCounts, AreHalted}
pub use Rattle.chip_report.specs.ReportLists.{opening_bracket, closing_bracket, first_list, text_after_list}
pub use Rattle.chip_report.specs.ReportLists.{text_after_lists, spelled_number, numbers_spelled, list_at}
pub use Rattle.chip_report.specs.ReportLists.{AreReportNumbers}
pub use Rattle.chip_report.specs.ReportLists.{IsNoNumber, IsNoList, HasNoList}
pub use Rattle.chip_report.specs.ReportText.{comma, array_text, bool_text, is_empty, is_closed, member_text}
pub use Rattle.chip_report.specs.Reportable.{GivesReport, Content, content, IsReportOf, GrowsForALine, IsNoReportWithin}
pub use Rattle.chip_report.specs.Sink.{bytes_out, goes_on, last_write, writes}
pub use Rattle.chip_report.specs.Versions.{IsReportIn, IsNoReportIn, IsToldBy, content_by_text, text_in}
pub use Rattle.chip_report.specs.declared.fault.ReportFault.{ReportFault}
