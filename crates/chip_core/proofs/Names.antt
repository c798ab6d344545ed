-- The words that the proofs of this crate take from elsewhere, in one place. Declares nothing.
pub use Rattle.std.proofs.Common.{◌≡◌, ℕ, ◌<◌, ◌≤◌, true, false, eqb, ◌∷◌, length, get_or, Option, None, option_to_list}
pub use Rattle.std.proofs.Common.{refl, sym, ap, ◌∙◌, arith, ⊎_elim, true≢false, ◌≢◌, ◌+◌, ◌-◌, Bool, cond, List, []}
pub use Rattle.std.proofs.Common.{sum, Some, rules, ◌⊎◌, not, ◌&&◌, ◌||◌, Contains, subst, inl, inr, eqb-true, eq-eqb}
pub use Rattle.std.proofs.Common.{zero, suc, ltb, is_some, ltb-true, lt-ltb, ◌++◌, append-nil, append_assoc}
pub use Rattle.std.proofs.Common.{slice_index, pos_of_ne-zero, ◌*◌, take, drop, length-append, ◌↔◌, ◌^◌, leb-true, leb}
pub use Rattle.std.proofs.Common.{All, replicate, ◌%◌, zero-add, bit_or, min}
pub use Rattle.std.proofs.lemmas.Bool.{ltb-false, eqb-false, not-true, and_parts, or_right, cond-true, cond-false}
pub use Rattle.std.proofs.lemmas.Bool.Decides.{nat_tests}
pub use Rattle.std.proofs.lemmas.List.{get_or_past, drop_all, ext_get_or, take-append-le, take-append-drop, drop_at}
pub use Rattle.std.proofs.lemmas.List.{append_cancel_left, nil_from_length, get_or_append_left, get_or-drop}
pub use Rattle.std.proofs.lemmas.List.{length-drop}
pub use Rattle.std.proofs.lemmas.List.Elements.{All-from_get_or, Contains-append_left, Contains-append_right}
pub use Rattle.std.proofs.lemmas.List.Elements.{Contains-push_cases}
pub use Rattle.std.proofs.lemmas.List.FromFn.{fill_by_all, get_or-map-range_with_len, length-map-range_with_len}
pub use Rattle.std.proofs.lemmas.List.Sums.{sum_by-cons, sum_by-append, get_or-le-sum_by, sum_by-take-drop}
pub use Rattle.std.proofs.lemmas.Nat.{mod_below}
pub use Rattle.std.specs.List.Sorted.{IsStrictlyIncreasing}
pub use mathlib.Core.Logic.{dite}
pub use native.Mathlib.Decide.{dec_lt, ℕ_discrete}
pub use Rattle.chip_graph.proofs.PickLemmas.{picked_ext, All-picked, picked_none, picked_ascends, Contains-picked}
pub use Rattle.chip_graph.proofs.SumLemmas.{tested_none, cond_yes, cond_no, by_test, tested_term, sum_below_ext}
pub use Rattle.chip_graph.proofs.SumLemmas.{sum_by_place, sum_below_one, sum_below_add, sum_below_none, sum_below_term}
pub use Rattle.chip_graph.proofs.SumLemmas.{tested_ext, tested_add, sum_below_le, one_at_most, sum_below_split}
pub use Rattle.chip_graph.proofs.SumLemmas.{sum_below_scale}
pub use Rattle.chip_graph.specs.ChipGame.{IsGame}
pub use Rattle.chip_graph.specs.Limits.{max_total, max_limit}
pub use Rattle.chip_graph.specs.More.{brought_to, all_brought, HasMore}
pub use Rattle.chip_graph.specs.Multigraph.{degree, edge_at, IsDistance, IsEdge, IsGraph, ReachesSink}
pub use Rattle.chip_graph.specs.Sums.{filter_below, sum_below}
pub use Rattle.chip_sequence.proofs.BoundLemmas.{same_ends, chips_are_kept}
pub use Rattle.chip_sequence.proofs.CertificateLemmas.{inflow_outside}
pub use Rattle.chip_sequence.proofs.EndLemmas.{one_end, least_action, continued}
pub use Rattle.chip_sequence.proofs.FewLemmas.{fires_at, fires_below}
pub use Rattle.chip_sequence.proofs.FiringLemmas.{counts_outside, counts-append, counts-replicate, inflow_ext}
pub use Rattle.chip_sequence.proofs.FiringLemmas.{position_is, sequence-append, batch, position_by_counts_law}
pub use Rattle.chip_sequence.proofs.FiringLemmas.{more_chips}
pub use Rattle.chip_sequence.specs.Bound.{fires_at_distance, IsGreatestDistance}
pub use Rattle.chip_sequence.specs.Counted.{position_by_counts, IsBelowZero, inflow}
pub use Rattle.chip_sequence.specs.Firing.{IsLegal, legal_vertices}
pub use Rattle.chip_sequence.specs.Outcomes.{IsOutcome}
pub use Rattle.chip_sequence.specs.Play.{IsPlayed}
pub use Rattle.chip_sequence.specs.Sequence.{position_after, IsFiringSequence, HasEnded, HasEndedWithin, IsWholePlay}
pub use Rattle.chip_sequence.specs.Sequence.{counts, IsWithin}
pub use Rattle.chip_sequence.specs.declared.outcome.Outcome.{Outcome}
pub use Rattle.chip_link.proofs.NumberingLemmas.{numbered, numbered-append, length-numbered, numbered_at}
pub use Rattle.chip_link.proofs.ShownLemmas.{clear_sees, claim_shows, put_shows, take_sees, take_shows, seal_shows}
pub use Rattle.chip_link.proofs.SoundsLemmas.{length-sent_counts, none_held, clear_sound, claim_sound, put_sound}
pub use Rattle.chip_link.proofs.SoundsLemmas.{take_sound, seal_sound, fresh_sound, first_sound, one_held, none-some}
pub use Rattle.chip_link.proofs.WordLawsLemmas.{edge_word_reads, fired_word_reads, halts_word, halts_by_limit}
pub use Rattle.chip_link.specs.Laws.{IsPrefix}
pub use Rattle.chip_link.specs.Link.{claims_of, sent_counts, Tail, after_clear, after_claim, after_put, after_take}
pub use Rattle.chip_link.specs.Link.{after_seal, Sound, IsSealedAt, word_of, WordsShow}
pub use Rattle.chip_link.specs.WordLaws.{ReadsAs, ReadsAsFired}
pub use Rattle.chip_link.specs.Words.{edge_word, fired_word, word_after_exchange}
pub use Rattle.chip_detect.proofs.ListLemmas.{contains_nothing, none_some, contains_cases}
pub use Rattle.chip_detect.proofs.ListLemmas.{cases_option}
pub use Rattle.chip_detect.specs.Acknowledging.{is_parent, or_else}
pub use Rattle.chip_part.proofs.EdgeLemmas.{tail_root, tail_graph, head_graph, head_root, over_ins_graph}
pub use Rattle.chip_part.proofs.OpeningLemmas.{first_sent, first_fed, opening_keeps, first_few, first_is}
pub use Rattle.chip_part.proofs.PartLemmas.{at_edge, idle_take, no_fire, no_pending, no_halt, passive_parts, out_zero}
pub use Rattle.chip_part.proofs.PartLemmas.{none_halt, tail_inside, may_le, at_other}
pub use Rattle.chip_part.proofs.PhaseLemmas.{Spreads, of_takes, of_settles, of_firing, of_puts, of_sending_all}
pub use Rattle.chip_part.proofs.PhaseLemmas.{of_limit, of_acks, of_turn}
pub use Rattle.chip_part.proofs.PickedLemmas.{among_new_outs, among_new_ins}
pub use Rattle.chip_part.proofs.RestingLemmas.{nothing_left, same_edge}
pub use Rattle.chip_part.proofs.RuleLemmas.{rules_met, met_rules, running, some_of, is_none_of}
pub use Rattle.chip_part.proofs.TurnLemmas.{at_most_one}
pub use Rattle.chip_part.specs.Acting.{FitsSeen, is_of_root, FitsRoot}
pub use Rattle.chip_part.specs.Counting.{is_sent, work_of}
pub use Rattle.chip_part.specs.Edges.{over_ins, start_of, mult_of, chips_of_firings}
pub use Rattle.chip_part.specs.Kept.{IsNeutral, Met, opening_tail, KeepsOut, KeepsPart}
pub use Rattle.chip_part.specs.Part.{pending_of, owed_on, is_passive, is_legal, is_running, may_ack_on, deficit_of, unput_count}
pub use Rattle.chip_part.specs.Part.{refusals, cause, all_fed, AreGiven, first_put}
pub use Rattle.chip_part.specs.Setting.{Setting}
pub use Rattle.chip_part.specs.Steps.{saw, link_after, stop_after, message_of, settled_after, got_after, acked_after}
pub use Rattle.chip_part.specs.Steps.{halt_after, fired_after}
pub use Rattle.chip_part.specs.Turn.{Phase, nothing, either_phase, each_phase, one_step, seeing, ins_of, outs_of}
pub use Rattle.chip_part.specs.Turn.{may_fire, batch_of, putting, sending, sending_all, after_claim_phase, is_at_limit}
pub use Rattle.chip_part.specs.Turn.{acknowledging_parent, turn}
pub use Rattle.chip_part.specs.declared.cause.Cause.{Cause}
pub use Rattle.chip_part.specs.declared.cause.Cause.TheVariants.{SealedEdge, FiringLimit}
pub use Rattle.chip_part.specs.declared.reply.Reply.TheVariants.{Got, Sent, Empty, Sealed, NotNow}
pub use Rattle.chip_core.specs.Closing.{HasEnd, is_new_look, Advances, AsksFor, AsksForEverything, RootHasPut, HasTurn}
pub use Rattle.chip_core.specs.Closing.{HasRound, StirsNothing, IsIdleBetween, HasStretches, HasRounds}
pub use Rattle.chip_core.specs.Core.{Log, Step, Event, Part, Take, Ack, Fire, Clear, Claim, Put, Halt, Settle, Seal}
pub use Rattle.chip_core.specs.Core.{Read, Feed, End, part_of, does, part_in, out_in, into_in, IsLegalLog, outstanding_on}
pub use Rattle.chip_core.specs.Core.{tail_of, head_of, root, all_edges, graph_edges, Rule, unmet_rule, sees}
pub use Rattle.chip_core.specs.Core.{is_by_limit, answer, step, log_after, IsClosed, stopper, root_edge, Out, IsSettled}
pub use Rattle.chip_core.specs.Core.{fired_by, stop_in, Into, reply_of, replies_to, word_of_part, opening_part}
pub use Rattle.chip_core.specs.Detection.{IsTree, IsDetectionOrder}
pub use Rattle.chip_core.specs.Headline.{NoneHalted, NoneHaltedBySeal, Headline}
pub use Rattle.chip_core.specs.Histories.{done_by, part_by}
pub use Rattle.chip_core.specs.Laws.{GivenByTheRecord, OpeningMessages, InOrderFromTheOpening, CountsOf, NumbersOf}
pub use Rattle.chip_core.specs.Laws.{CellsOf, WordsOf, WordsTell, SealsStand, UnfedIsTheStart, FeedsAreSent, gone_into}
pub use Rattle.chip_core.specs.Laws.{PartsByTheirOwnEvents, LegalLogsAreRuns}
pub use Rattle.chip_core.specs.Messages.{counts_in_flight, messages_from, in_flight, Message, to_deliver, delivered_on}
pub use Rattle.chip_core.specs.Messages.{sent_by, delivered_by, is_seal_of, sent_in, sent_after_seal, is_seal}
pub use Rattle.chip_core.specs.Messages.{was_sealed, AreInOrderFrom, chips_in}
pub use Rattle.chip_core.specs.Outcomes.{is_by_seal, AreFired, IsOutcomeOf, ComesTo, OutcomesTell}
pub use Rattle.chip_core.specs.Playing.{SealsNone, EndsAsPlayed, UnsealedHaltsNone, FairSchedulesPlay, FairRoundsPlay}
pub use Rattle.chip_core.specs.Positions.{chips_given, held, chips_at, firings, AgreesWith, played_game, fed_of, fed_in}
pub use Rattle.chip_core.specs.Positions.{full_position, firings_of, FiresToEnd, events_in}
pub use Rattle.chip_core.specs.Reached.{parts_by, IsOneMore, IsReached, at_opening, one_more, ReachedByLegalLogs}
pub use Rattle.chip_core.specs.Replies.{is_idle, DifferInNotes, IdleStepsLeave, RunsGoOn}
pub use Rattle.chip_core.specs.Soon.{HasTerminated, IsTreeAtMostDeep, CoreDepthCloses, DepthClosesLater}
pub use Rattle.chip_core.specs.Soon.{CoreDepthIsCounted, acks_left, CoreFewAreLeft}
pub use Rattle.chip_core.specs.Wasting.{AllAdvance, NoneIsDue, CoreNoWasteCloses}
pub use Rattle.chip_core.specs.Words.{acting_part, of_edge, of_cell, Word, of_vertex, IsWord, halt_bits, word_of_event}
pub use Rattle.chip_core.specs.Words.{word_to_note, IsShown, OperationsFind, IsLeft, WordsGoOn}
pub use Rattle.chip_core.specs.Work.{counts_as_work, is_refusal, work_in, refusals_in, steps_at_most, fed_so_far}
pub use Rattle.chip_core.specs.Work.{AreFiringBounds, starters, fires_at_most}
pub use Rattle.chip_core.specs.Worked.{TwoEngaged, whole_schedule, WholeSchedule, limit_of_two, stopped_by_limit}
pub use Rattle.chip_core.specs.Worked.{StoppedByLimit, played_on, StoppedBySeal, fed_triangle, fed_schedule}
pub use Rattle.chip_core.specs.Worked.{ClosedByTheEnd}
pub use Rattle.chip_core.specs.WorkedClosing.{ThreeSteps, TrianglePlays, sink_alone, backwards, ThreeStretches}
pub use Rattle.chip_core.specs.WorkedClosing.{FiveStretches, BatchesAsk}
pub use Rattle.chip_core.specs.WorkedSoon.{four_chips, sent_back, PairCloses}
