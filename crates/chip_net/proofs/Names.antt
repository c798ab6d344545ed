-- The words that the proofs of this crate take from elsewhere, in one place. Declares nothing.
pub use Rattle.std.proofs.Common.{◌≡◌, ℕ, ◌<◌, List, [], ◌∷◌, ◌++◌, append_assoc, append-nil, refl, sym, ap, ◌∙◌, subst}
pub use Rattle.std.proofs.Common.{Bool, true, false, arith, ◌+◌, ◌≤◌, not, sum, Option, Some, None, leb, le-leb, lt-ltb}
pub use Rattle.std.proofs.Common.{eq-eqb}
pub use Rattle.std.proofs.Common.{ne_eqb, leb-true, true≢false, ◌&&◌, length, map, get_or, slice_index, is_some}
pub use Rattle.std.proofs.Common.{Contains, ◌≢◌, ◌-◌, ◌*◌, ◌/◌, ◌%◌, set, cond, ltb, le-ltb, get_or-set_same}
pub use Rattle.std.proofs.Common.{get_or-set_other, div-add-mod', zero, suc, take, drop, length-append, length-set, ◌^◌}
pub use Rattle.std.proofs.Common.{◌==◌, bit_or, eqb, inr, reverse}
pub use Rattle.std.proofs.Crossing.{crosses}
pub use Rattle.std.proofs.Math.ListN.{get_or-map}
pub use Rattle.std.proofs.Math.Nat.{mod-eq_of_lt}
pub use Rattle.std.proofs.Math.Seq.{take-length, drop-length}
pub use Rattle.std.proofs.lemmas.Bool.{leb-false, and_from}
pub use Rattle.std.proofs.lemmas.Bool.Decides.{nat_tests}
pub use Rattle.std.proofs.lemmas.List.{reverse-append, length-map, set-get_or, length-take-le, take-append-drop}
pub use Rattle.std.proofs.lemmas.List.{get_or-append_right, get_or-drop, get_or_past, get_or_push, get_or_append_left}
pub use Rattle.std.proofs.lemmas.List.{map-append, reverse-reverse, nil_from_length, length-replicate, with_items_is}
pub use Rattle.std.proofs.lemmas.List.Edits.{map_over_more}
pub use Rattle.std.proofs.lemmas.List.Elements.{Contains-append_right}
pub use Rattle.std.proofs.lemmas.Nat.{mul-add-lt, div-mul-add}
pub use Rattle.std.proofs.lemmas.Option.{slice_get-get_or, get_or_from_slice_get, slice_get_read, slice_get_within}
pub use Rattle.std.specs.List.{range_with_len}
pub use Rattle.std.specs.Prelude.{Result, Ok, Err, slice_get, is_none}
pub use Rattle.std.specs.Vec.{with_items}
pub use Rattle.atomic_table.proofs.Lists.{set_again, set_else, at_last}
pub use Rattle.atomic_table.specs.Seated.{TableId}
pub use Rattle.atomic_table.specs.Table.{Allows, State, keeps, opening, stepped, Splits, Joins}
pub use Rattle.atomic_table.specs.Table.{Enters}
pub use base.Fml.{Lft}
pub use denote.Param.Send.{IsSend, sendable, shr_send}
pub use denote.Ref.{ShrRef}
pub use lib.ListN.{get_elem?}
pub use mathlib.Core.Logic.{dite}
pub use mathlib.Core.Option.{some, some-ne-none}
pub use mir.Syntax.{Lifetime}
pub use native.Mathlib.Decide.{ℕ_discrete}
pub use prog.Atomic.{either}
pub use Rattle.chip_graph.proofs.PickLemmas.{picked_none, picked_ext, picked_has}
pub use Rattle.chip_graph.proofs.SumLemmas.{cond_no, sum_below_ext}
pub use Rattle.chip_graph.specs.ChipGame.{ChipGame}
pub use Rattle.chip_graph.specs.Limits.{max_total}
pub use Rattle.chip_graph.specs.More.{all_brought, HasMore}
pub use Rattle.chip_graph.specs.Multigraph.{Multigraph}
pub use Rattle.chip_graph.specs.Sums.{filter_below}
pub use Rattle.chip_sequence.proofs.AfterLemmas.{no_fault}
pub use Rattle.chip_sequence.proofs.BoundLemmas.{same_ends}
pub use Rattle.chip_sequence.specs.Counted.{IsBelowZero, IsAfter, game_from}
pub use Rattle.chip_sequence.specs.declared.outcome.Outcome.{Outcome}
pub use Rattle.chip_link.proofs.WordLawsLemmas.{read_edge}
pub use Rattle.chip_link.specs.Laws.{IsPrefix}
pub use Rattle.chip_link.specs.Link.{sent_counts, Tail, after_clear, claims_of, after_seal}
pub use Rattle.chip_link.specs.Link.{IsSealedAt}
pub use Rattle.chip_link.specs.WordLaws.{ReadsAs}
pub use Rattle.chip_link.specs.Words.{fired_in, is_halted_in, is_by_limit_in, is_fired_word}
pub use Rattle.chip_link.specs.Words.{edge_word, claims_in, is_sealed_in}
pub use Rattle.chip_link.specs.declared.trace.TraceRow.{TraceRow}
pub use Rattle.chip_detect.proofs.ListLemmas.{contains_nothing}
pub use Rattle.chip_part.proofs.EdgeLemmas.{tail_root}
pub use Rattle.chip_part.proofs.OpeningLemmas.{first_is}
pub use Rattle.chip_part.proofs.PartLemmas.{at_other, stays_ended}
pub use Rattle.chip_part.proofs.RestingLemmas.{idle_turn_rests}
pub use Rattle.chip_part.proofs.RuleLemmas.{met_rules}
pub use Rattle.chip_part.proofs.TurnLemmas.{turns_bounded}
pub use Rattle.chip_part.specs.Acting.{event_of, FitsSeen, verdict, act_of, FitsRoot, is_of_root}
pub use Rattle.chip_part.specs.Counting.{work_of}
pub use Rattle.chip_part.specs.Edges.{root, graph_edges, all_edges, root_edge, stopper, start_of}
pub use Rattle.chip_part.specs.Part.{is_passive, all_fed, is_by_limit, AreGiven, first_put, deficit_of}
pub use Rattle.chip_part.specs.Rules.{need}
pub use Rattle.chip_part.specs.Setting.{Setting, IsSetting}
pub use Rattle.chip_part.specs.Steps.{saw, link_after, stop_after}
pub use Rattle.chip_part.specs.Turn.{turn}
pub use Rattle.chip_part.specs.declared.act.Act.{Act}
pub use Rattle.chip_part.specs.declared.cause.Cause.{Cause}
pub use Rattle.chip_part.specs.declared.cause.Cause.TheVariants.{SealedEdge, FiringLimit}
pub use Rattle.chip_part.specs.declared.reply.Reply.TheVariants.{Done, Full}
pub use Rattle.chip_part.specs.declared.rule.Rule.{Rule}
pub use Rattle.chip_part.specs.declared.rule.Rule.TheVariants.{NoSuch, Ended, Zero, TooMuch, NotCleared}
pub use Rattle.chip_actor.specs.Actor.{Actor, StandsFor}
pub use Rattle.chip_actor.specs.Medium.{IsDueBy, MayServe, Serves, IsLonger, Meets, MakesTurnOver, IsTurnMade}
pub use Rattle.chip_actor.specs.Root.{Root, RootStandsFor, RootCanDo}
pub use Rattle.chip_core.proofs.ClosingLemmas.{all_ended}
pub use Rattle.chip_core.proofs.DueLemmas.{never_stuck}
pub use Rattle.chip_core.proofs.GivenLemmas.{root_gave, played_has_more, given_is, given_start, given_within}
pub use Rattle.chip_core.proofs.GivenLemmas.{unfed_played, never_sealed}
pub use Rattle.chip_core.proofs.InstanceLemmas.{core_diffuses}
pub use Rattle.chip_core.proofs.LogLemmas.{edge_sound}
pub use Rattle.chip_core.proofs.NumberLemmas.{fits_seen, words_tell, counts_of_edges, root_fits, claims_most}
pub use Rattle.chip_core.proofs.NumberLemmas.{seals_stand_law}
pub use Rattle.chip_core.proofs.OutcomeLemmas.{never_negative, comes, in_range, is_played}
pub use Rattle.chip_core.proofs.PlayingLemmas.{unsealed_refuses}
pub use Rattle.chip_core.proofs.ReachedLemmas.{reached_by_legal_logs}
pub use Rattle.chip_core.proofs.ReachingLemmas.{by_history, part-append}
pub use Rattle.chip_core.proofs.ReadLemmas.{reads_tell}
pub use Rattle.chip_core.proofs.RoundLemmas.{own_in}
pub use Rattle.chip_core.proofs.ShowingLemmas.{word_for, word_there, finds, words_go_on}
pub use Rattle.chip_core.specs.Core.{Step, Event, Part, part_of, part_in, does, unmet_rule, Feed, opening_part, Log}
pub use Rattle.chip_core.specs.Core.{word_of_part, IsLegalLog, IsClosed, Read, Seal, Clear, Put, Settle, End, Out}
pub use Rattle.chip_core.specs.Core.{Reply, reply_of, Claim, sees, out_in, stop_in, Ack, Fire, Halt, Take}
pub use Rattle.chip_core.specs.Headline.{NoneHalted, NoneHaltedBySeal}
pub use Rattle.chip_core.specs.Histories.{part_by, done_by}
pub use Rattle.chip_core.specs.Laws.{WordsOf}
pub use Rattle.chip_core.specs.Outcomes.{is_by_seal, AreFired, IsOutcomeOf, ComesTo}
pub use Rattle.chip_core.specs.Positions.{fed_in, chips_given, played_game, firings}
pub use Rattle.chip_core.specs.Reached.{parts_by}
pub use Rattle.chip_core.specs.Words.{IsWord, word_to_note, Word, of_edge, of_acks, of_cell, of_vertex, halt_bits}
pub use Rattle.chip_core.specs.Words.{word_of_event, left_by, IsShown, IsLeft, acting_part}
pub use Rattle.chip_net.specs.Finish.{reads_from, IsReadOut, ReadingsState, is_by_limit_at, is_by_seal_at, AreRead}
pub use Rattle.chip_net.specs.Finish.{IsReading, IsOneEnd, Finishes, ReadsAt, readings_after, no_readings}
pub use Rattle.chip_net.specs.Laws.{EveryMomentIsReached, EveryMomentDiffuses}
pub use Rattle.chip_net.specs.Layout.{index_of, first_cell, first_fired, word_count, value_in}
pub use Rattle.chip_net.specs.Meeting.{Together, IsRun, SealsTellAll}
pub use Rattle.chip_net.specs.Opening.{first_value, AreOpening}
pub use Rattle.chip_net.specs.Roots.{RootKnown, root_part, has_ended, all_given, IsRoot, feed_fault, AllowsFeed}
pub use Rattle.chip_net.specs.Roots.{root_after, fed_by, root_deficit, IsRootOver, known_root, IsFeeding, IsDueInView}
pub use Rattle.chip_net.specs.Roots.{RootMakesEvent, Replies, settles_from, DoesMore, HoldsNothing, with_stopper}
pub use Rattle.chip_net.specs.Roots.{IsDueForRoot, FeedsChips, StopperKnown, Seals, stopper_part}
pub use Rattle.chip_net.specs.Rule.{Kept, step_of, Grows, Looks, Stepped}
pub use Rattle.chip_net.specs.Tokens.{TurnSetup, AreWordsOf, Holds, NetId, ActorKnown, part_known, known, table_of}
pub use Rattle.chip_net.specs.Tokens.{me_of, AnswersTurn, MakesTurn, MakesTurnBy, at_net, seatless, IsOfNet, IsSeated}
pub use Rattle.chip_net.specs.Tokens.{IsActorState, newcomer}
pub use Rattle.chip_net.specs.Traces.{TraceState, Keeps, row_of, trace_rows_of}
pub use Rattle.chip_net.specs.Views.{Mine, did_in, part_of_view, History, IsAlone, View, find_in, opening_view, find}
pub use Rattle.chip_net.specs.Views.{grow_view, HasPart, join_views, view_without, view_of_one, no_parts}
pub use Rattle.chip_net.specs.Views.{grow, drop_part, one_part, parts_below}
pub use Rattle.chip_net.specs.contracts.root_actor.RootActor.{the_view}
pub use Rattle.chip_net.specs.declared.actor.Turn.{Turn}
pub use Rattle.chip_net.specs.declared.actor.Turn.TheVariants.{Worked, Waiting, Idle}
pub use Rattle.chip_net.specs.declared.poll.FeedFault.{FeedFault}
pub use Rattle.chip_net.specs.declared.stopper.SealedAt.{SealedAt}
