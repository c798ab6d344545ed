-- The words that the proofs of this crate take from elsewhere, in one place. Declares nothing.
pub use Rattle.std.proofs.Common.{◌≡◌, ◌⊎◌, ℕ, Bool, List, Option, None, Some, refl, inl, inr, sum, is_none, nat_le}
pub use Rattle.std.proofs.Common.{if◌then◌else◌, ◌<◌, ◌≤◌, ◌+◌, true, false, [], length, map, drop, get_or, sym, ◌∙◌}
pub use Rattle.std.proofs.Common.{arith, Bor, add-one, drop-cons, ◌&&◌, not, bytes_eq, option_map, Ok, Err, ap, subst}
pub use Rattle.std.proofs.Common.{option_and_then, Result, nat_lt, ◌≢◌, zero, suc, ◌*◌, max, cond, ◌∷◌, ◌++◌}
pub use Rattle.std.proofs.Common.{append-nil, append_assoc, ◌==◌, is_some, unwrap_or, slice_index_or, eq-eqb, All, ◌^◌}
pub use Rattle.std.proofs.Common.{take, length-append, IfSome, IfOk, IsSome, set, get_or-set_same, get_or-set_other}
pub use Rattle.std.proofs.Common.{replicate, codes, le-leb, rules, ◌-◌, vec_len, string_bytes}
pub use Rattle.std.proofs.KnownBytes.{Consumes-trans, Consumes-kept}
pub use Rattle.std.proofs.Math.Nat.{pow-le-pow_right}
pub use Rattle.std.proofs.lemmas.Bool.{lt-leb, eqb-true, eqb-false}
pub use Rattle.std.proofs.lemmas.Bool.Decides.{nat_tests, leb_tells}
pub use Rattle.std.proofs.lemmas.Grind.{common_steps}
pub use Rattle.std.proofs.lemmas.Int.Digits.{digits_more, digits_value-lt, digits_value_more}
pub use Rattle.std.proofs.lemmas.List.{drop_all, get_or-map, length-map, map_push, map-append, take_all}
pub use Rattle.std.proofs.lemmas.List.{get_or-replicate, get_or_read_under, length-replicate, length-set, map-set}
pub use Rattle.std.proofs.lemmas.List.Elements.{All-nil, All-cons, All-head, All-tail, All-same, All-filter}
pub use Rattle.std.proofs.lemmas.List.Elements.{filter-append}
pub use Rattle.std.proofs.lemmas.List.FromFn.{fill_by_all}
pub use Rattle.std.proofs.lemmas.Simd.{map-map}
pub use Rattle.std.proofs.lemmas.Str.Parse.{IsNumeralModel, numerals_by_value, tells_all_ascii_digits, digit_from_value}
pub use Rattle.std.specs.Char.{digit_value, is_ascii_digit}
pub use Rattle.std.specs.Cmp.Lexicographic.{pointwise}
pub use Rattle.std.specs.Global.{Vec}
pub use Rattle.std.specs.Io.{ReadsAtMost}
pub use Rattle.std.specs.Io.KnownBytes.{Consumes, ReadConsumes}
pub use Rattle.std.specs.List.{filter, range_with_len}
pub use Rattle.std.specs.Option.{option_eq, SomeIff}
pub use Rattle.std.specs.Result.{IsErrAnd}
pub use Rattle.std.specs.Str.{all_ascii_digits}
unfoldable pub use Rattle.std.specs.Str.{is_utf8, chars}
pub use Rattle.std.specs.Str.Parse.{AllDigits, digits_value}
unfoldable pub use Rattle.csv.proofs.OnLiterals.{csv_on_literals}
pub use Rattle.csv.proofs.RecordFacts.{field-get, field-there}
pub use Rattle.csv.specs.Machine.{Read, step, is_end, ends_at_end, fields_after, field_after}
unfoldable pub use Rattle.csv.specs.Machine.{next_record}
pub use Rattle.csv.specs.Reading.{records_next, is_bom, default_config, ReadsNext, NextIs, ReadRecord, took_first}
pub use Rattle.csv.specs.Reading.{is_flexible}
unfoldable pub use Rattle.csv.specs.Reading.{records_from, strip_bom}
pub use Rattle.csv.specs.Records.{fields_of}
unfoldable pub use Rattle.csv.specs.Records.{field_at}
pub use Rattle.csv.specs.declared.parser.Config.{Config}
pub use Rattle.csv.specs.declared.parser.State.{State}
unfoldable pub use Rattle.serde_json.proofs.OnLiterals.{serde_json_on_literals}
pub use Rattle.chip_graph.proofs.FaultLemmas.{rows_few}
pub use Rattle.chip_graph.specs.Faults.{first_of_faults, fault_unless, IsGraphFault, MakesGraph, fault_of_edges}
pub use Rattle.chip_graph.specs.Limits.{max_total, SizeLimits, standard, AreLimits}
pub use Rattle.chip_graph.specs.Multigraph.{Multigraph, IsGraphWithin}
pub use Rattle.chip_graph.specs.declared.edge.Edge.{Edge}
pub use Rattle.chip_graph.specs.declared.fault.GraphFault.{GraphFault}
pub use Rattle.chip_link.specs.declared.trace.TraceRow.{TraceRow}
pub use Rattle.chip_log.proofs.CountLemmas.{steps_of-append, active_after-append, same_stream_is}
pub use Rattle.chip_log.proofs.JudgeLemmas.{begins_with-append}
pub use Rattle.chip_log.proofs.MetLemmas.{count_no, count_yes, same_self}
pub use Rattle.chip_log.specs.Judge.{AreBeginners, begins_with, first_step}
pub use Rattle.chip_log.specs.Log.{steps_of, same_stream, sends, gets, active_after, begins_active, is_active}
pub use Rattle.chip_log.specs.Order.{AreSent, IsWellFormed, may_send}
pub use Rattle.chip_log.specs.Past.{Fits, FitsRow}
pub use Rattle.chip_log.specs.declared.past.Sizes.{Sizes}
pub use Rattle.chip_log.specs.declared.row.LogRow.{LogRow}
pub use Rattle.chip_log.specs.declared.row.Step.{Step}
pub use Rattle.chip_log.specs.declared.row.Step.TheVariants.{Out, In, Passive, Active, Over}
pub use Rattle.chip_log.specs.declared.row.Stream.{Stream}
pub use Rattle.chip_file.specs.GraphFile.{GraphFile, file_of_value, json_of}
pub use Rattle.chip_file.specs.JsonRows.{KeepsEdges}
pub use Rattle.chip_file.specs.Answer.{Gives, AnswersInput, IsOfMachine, ReadsWhole, TakesAtMost, max_chunk}
pub use Rattle.chip_file.specs.ChipsText.{chips_header, chips_text_fault, chips_of_rows, chips_of_text}
pub use Rattle.chip_file.specs.DropsText.{drops_of_text, drops_text_fault, drop_in}
pub use Rattle.chip_file.specs.GraphFaults.{of_graph_fault}
pub use Rattle.chip_file.specs.GraphText.{file_of_text, graph_of_file, graph_of_text, IsKeptText, MeansGraph}
pub use Rattle.chip_file.specs.GraphText.{IsGraphTextFault}
pub use Rattle.chip_file.specs.Kinds.{kind_at, kind_named, named_kinds}
pub use Rattle.chip_file.specs.LogLaws.{AreMixed, MixedLogs}
pub use Rattle.chip_file.specs.LogSoFar.{NotesAt, end_number, activity, next_activity, AreHolders, AreActive}
pub use Rattle.chip_file.specs.LogSoFar.{IsFaultless}
pub use Rattle.chip_file.specs.LogSoFar.{uses, MayMake, AreAllowed, IsSoundLog, IsSoFar}
pub use Rattle.chip_file.specs.Numbers.{number_at, number_in, number_of}
pub use Rattle.chip_file.specs.Rows.{Row, records_of, rows_under_header, first_row_fault, has_header, records_fault}
pub use Rattle.chip_file.specs.Rows.{by_index, RowFault, has_fields}
pub use Rattle.chip_file.specs.Source.{ReadsSource, TellsRead, bytes_left, last_of_whole, last_read, reads, may_read_on}
pub use Rattle.chip_file.specs.TraceText.{trace_text_fault, trace_row_fault, trace_row_in, trace_in, traces_of_text}
pub use Rattle.chip_file.specs.VertexRows.{numbers_text_fault, new_row_fault, IsByVertex, vertex_row_fault}
pub use Rattle.chip_file.specs.VertexRows.{number_named, vertex_in, given_in, numbers_of_rows}
pub use Rattle.chip_file.specs.declared.fault.FileFault.{FileFault}
pub use Rattle.chip_file.specs.declared.source.LastRead.{LastRead}
pub use Rattle.chip_file.specs.declared.source.Source.{Source}
