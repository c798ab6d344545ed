-- The words that the proofs of this crate take from elsewhere, in one place. Declares nothing.
pub use Rattle.std.proofs.Common.{◌≡◌, ◌≢◌, ℕ, ◌<◌, List, [], ◌∷◌, ◌++◌, reverse, get_or, set, Option, Some, None, refl}
pub use Rattle.std.proofs.Common.{sym, ap, ◌∙◌, subst, arith, length-set, get_or-set_same, get_or-set_other}
pub use Rattle.std.proofs.Common.{append_assoc, ◌⊎◌, zero, suc, ◌+◌, ◌-◌, ◌≤◌, length, inl, inr, ⊎_elim, Bool, true}
pub use Rattle.std.proofs.Common.{false, not, eqb, ◌*◌, sum, min, add-mul, suc-mul, append-nil, ◌%◌, take, length-drop}
pub use Rattle.std.proofs.Common.{length-take-le, option_to_list, ltb, unwrap_or, cond, replicate, lt-ltb}
pub use Rattle.std.proofs.Common.{is_some, map, length-append, vec_capacity, leb-true, Result, Ok, Err}
pub use Rattle.std.proofs.Common.{true≢false, ◌^◌, bit_or, Vec, Global, slice_index, slice_index_or, eq-eqb, eqb-true}
pub use Rattle.std.proofs.Common.{vec_len, drop, add-one}
pub use Rattle.std.proofs.Math.ListN.{drop_of_length-le}
pub use Rattle.std.proofs.Math.Seq.{drop-cons}
pub use Rattle.std.proofs.lemmas.Bool.{lt-leb, and_parts, and_from}
pub use Rattle.std.proofs.lemmas.Bool.Decides.{nat_tests}
pub use Rattle.std.proofs.lemmas.Grind.{reverse_onto}
pub use Rattle.std.proofs.lemmas.List.{get_or_past, get_or_append_left, get_or_push, get_or-drop}
pub use Rattle.std.proofs.lemmas.List.{take_more, get_or-replicate, length-replicate, get_or_default, get_or-map}
pub use Rattle.std.proofs.lemmas.List.{length-map, map-set, get_or_read, with_items_is}
pub use Rattle.std.proofs.lemmas.List.Elements.{Contains-append_left}
pub use Rattle.std.proofs.lemmas.Nat.{mod_below}
pub use Rattle.std.specs.Bool.{⊤}
pub use Rattle.std.specs.List.{Contains}
pub use mathlib.Core.Logic.{dite}
pub use native.Mathlib.Decide.{ℕ_discrete, dec_lt}
pub use Rattle.chip_graph.proofs.SumLemmas.{cond_no, cond_yes, by_test}
pub use Rattle.chip_graph.specs.ChipGame.{IsGame}
pub use Rattle.chip_graph.specs.Sums.{sum_below}
pub use Rattle.chip_sequence.proofs.AfterLemmas.{no_fault}
pub use Rattle.chip_sequence.specs.Bound.{fires_at_distance}
pub use Rattle.chip_sequence.specs.Counted.{IsBelowZero, game_from}
pub use Rattle.chip_link.proofs.ShownLemmas.{fresh_shows, first_shows}
pub use Rattle.chip_link.proofs.SoundsLemmas.{none_held, one_held, length-sent_counts}
pub use Rattle.chip_link.proofs.WordLawsLemmas.{adds_firings, halts_word, halts_by_limit}
pub use Rattle.chip_link.specs.Link.{Tail, claims_of, sent_counts, Sound, WordsShow}
pub use Rattle.chip_link.specs.Words.{claims_in, fired_word, word_after_exchange}
pub use Rattle.chip_link.specs.declared.message.Message.{Message}
pub use Rattle.chip_detect.specs.Books.{in_edges}
pub use Rattle.chip_part.proofs.EdgeLemmas.{tail_root}
pub use Rattle.chip_part.proofs.PartLemmas.{may_le}
pub use Rattle.chip_part.proofs.PhaseLemmas.{of_turn, Spreads}
pub use Rattle.chip_part.proofs.RuleLemmas.{met_rules, rules_met}
pub use Rattle.chip_part.specs.Acting.{act_of, event_of, verdict, is_of_root, FitsSeen}
pub use Rattle.chip_part.specs.Edges.{root_edge, head_if, head_of, tail_if}
pub use Rattle.chip_part.specs.Kept.{Met}
pub use Rattle.chip_part.specs.Part.{Part, may_ack_on, first_put, opening_part, cause, is_by_limit}
pub use Rattle.chip_part.specs.Setting.{Setting, IsSetting, setting_with}
pub use Rattle.chip_part.specs.Steps.{saw, message_of, parent_after}
pub use Rattle.chip_part.specs.Turn.{Phase, nothing, either_phase, and_then, seeing, one_step}
pub use Rattle.chip_part.specs.Turn.{acknowledging_parent, turn, last_acknowledgement}
pub use Rattle.chip_part.specs.declared.act.Act.{Act}
pub use Rattle.chip_part.specs.declared.cause.Cause.{Cause}
pub use Rattle.chip_part.specs.declared.cause.Cause.TheVariants.{SealedEdge, FiringLimit}
pub use Rattle.chip_part.specs.declared.reply.Reply.TheVariants.{Got, Sent, Done, NotNow}
pub use Rattle.chip_part.specs.declared.rule.Rule.TheVariants.{NoSuch}
pub use Rattle.chip_actor.proofs.StandingLemmas.{books_in, deficit_is}
pub use Rattle.chip_actor.specs.Actor.{Actor, StandsFor, SomePart, WhateverPart}
pub use Rattle.chip_actor.specs.Found.{MeetsEvent, MakesEvent, IsAnswered}
pub use Rattle.chip_actor.specs.Medium.{AreOf, Meets, MakesTurnOver, IsDueBy, MayServe, Serves, IsLonger}
pub use Rattle.chip_actor.specs.Root.{RootStandsFor, WhateverRoot, Root, SomeRoot, RootCanDo, RootMakes}
pub use Rattle.chip_core.proofs.GivenLemmas.{recorded_step, given_is, given_start, given_within}
pub use Rattle.chip_core.proofs.HeadlineLemmas.{core_theorem}
pub use Rattle.chip_core.proofs.IdleLemmas.{work_grows}
pub use Rattle.chip_core.proofs.LogLemmas.{part_else, part_kept, legal_before, part_here, head_inside, tail_inside}
pub use Rattle.chip_core.proofs.LogLemmas.{edge_sound, edge_counts}
pub use Rattle.chip_core.proofs.MessageLemmas.{messages-append, held_from_the_opening}
pub use Rattle.chip_core.proofs.NumberLemmas.{root_fits, fits_seen, claims_most, words}
pub use Rattle.chip_core.proofs.OutcomeLemmas.{never_negative, comes, in_range, is_played}
pub use Rattle.chip_core.proofs.ReachingLemmas.{run_legal}
pub use Rattle.chip_core.proofs.ReadLemmas.{closed_is}
pub use Rattle.chip_core.proofs.ReplyLemmas.{log_after-append}
pub use Rattle.chip_core.proofs.RoundLemmas.{round_closes}
pub use Rattle.chip_core.proofs.ScheduleLemmas.{ends_longer, few_after}
pub use Rattle.chip_core.proofs.ShowingLemmas.{operations_find, words_go_on}
pub use Rattle.chip_core.proofs.WorkLemmas.{feeds_fit, distance_bounds}
pub use Rattle.chip_core.specs.Closing.{HasEnd, RootHasPut, HasTurn, HasRound}
pub use Rattle.chip_core.specs.Core.{Log, Step, Event, Reply, Rule, part_of, part_in, unmet_rule, does, reply_of, sees}
pub use Rattle.chip_core.specs.Core.{word_of_part, root, answer, graph_edges, Settle, IsLegalLog, IsClosed, log_after}
pub use Rattle.chip_core.specs.Core.{tail_of, Take, Ack, FitsLog, into_in, out_in, all_edges, Put, Claim, Feed, step}
pub use Rattle.chip_core.specs.Core.{replies_to, Clear, Seal, Read, End, stopper, Fire, Halt, stop_in}
pub use Rattle.chip_core.specs.Histories.{done_by}
pub use Rattle.chip_core.specs.Messages.{messages_from, counts_in_flight, sent_by, delivered_by, sent_in, delivered_in}
pub use Rattle.chip_core.specs.Messages.{to_deliver, delivered_on, in_flight}
pub use Rattle.chip_core.specs.Outcomes.{AreFired, halted_by}
pub use Rattle.chip_core.specs.Positions.{played_game}
pub use Rattle.chip_core.specs.Words.{halt_bits, Word, of_edge, of_acks, of_cell, of_vertex, word_of_event}
pub use Rattle.chip_core.specs.Words.{word_to_note, IsShown, acting_part, IsLeft}
pub use Rattle.chip_core.specs.Work.{work_in, steps_at_most, fed_so_far, AreFiringBounds}
pub use Rattle.chip_world.specs.Enough.{rounds_to_close, ClosesIn}
pub use Rattle.chip_world.specs.Lanes.{Lane, no_lane, lane_at, with_message}
pub use Rattle.chip_world.specs.Makers.{vertex_of, is_by_act, vertex_if, is_of_others}
pub use Rattle.chip_world.specs.Rounds.{IsTurnAfter, AreTurns, root_settles, IsWorldRound, AreOpenRounds, IsDrive, LeadsWorld}
pub use Rattle.chip_world.specs.Rounds.{NoOtherDrive, AnswersDrive, IsRootOpen, ClosesBy}
pub use Rattle.chip_world.specs.Run.{is_claim_of, is_take_of, count_among, Counts, sent_after, delivered_after}
pub use Rattle.chip_world.specs.Run.{SentOnEdge, GotOnEdge, HasRoomForEvents, HasRooms, AreAllListed, IsNotedUpTo, IsRecordOf}
pub use Rattle.chip_world.specs.Run.{IsHeldByReplies, IsOpenedLane}
pub use Rattle.chip_world.specs.SharedWords.{opening_words, EdgeState, words_of, with_edge, with_seal, seen_in}
pub use Rattle.chip_world.specs.SharedWords.{words_after, CanPerform, no_words, with_cell, with_claim, with_acks}
pub use Rattle.chip_world.specs.SharedWords.{cell_of, HasCell}
pub use Rattle.chip_world.specs.TurnWords.{TurnWords, WordsHold}
pub use Rattle.chip_world.specs.Worked.{lone_sink, OneRoundCloses, NoRoundLeavesOpen}
pub use Rattle.chip_world.specs.World.{WorldState, StandsForLog, IsActor, MakesStep, ShowsEdge, first_chips}
pub use Rattle.chip_world.specs.World.{AreOpeningWords, AreOpeningActors, WhateverLog}
pub use Rattle.chip_world.specs.contracts.world.World.{the_view}
pub use Rattle.chip_world.specs.declared.world.driving.Drive.{Drive}
pub use Rattle.chip_world.specs.declared.world.driving.Drive.TheVariants.{Closed, Unfinished}
pub use Rattle.chip_world.specs.declared.world.running.Notes.{Notes}
