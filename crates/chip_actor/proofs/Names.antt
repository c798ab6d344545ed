-- The words that the proofs of this crate take from elsewhere, in one place. Declares nothing.
pub use Rattle.std.proofs.Common.{◌≡◌, ℕ, zero, suc, get_or, ◌+◌, ◌<◌, false, eqb, List, [], ◌∷◌, length, map, None}
pub use Rattle.std.proofs.Common.{refl, sym, ap, ◌∙◌, subst, arith, ◌≤◌, cond, ◌++◌, take, drop, set, Some, ◌≢◌, ◌-◌}
pub use Rattle.std.proofs.Common.{◌^◌, Bool, true, ltb, lt-ltb, ◌*◌, ◌%◌, if◌then◌else◌, sum, Option, IsTrue}
pub use Rattle.std.proofs.Common.{append-nil, option_to_list, eq-eqb, reverse, ◌&&◌, slice_index, length-set, not}
pub use Rattle.std.proofs.Common.{is_some, is_none, mul_comm, rules, option_map, ne_eqb}
pub use Rattle.std.proofs.Common.{◌==◌, MatchOption, length-append}
pub use Rattle.std.proofs.lemmas.Bool.Decides.{nat_tests}
pub use Rattle.std.proofs.lemmas.List.{get_or_default, take_more, take_more_set, drop-set-lt, map-append, length-map}
pub use Rattle.std.proofs.lemmas.List.{get_or-map, map-set, set-get_or, take_all, take-append-le, append_assoc}
pub use Rattle.std.proofs.lemmas.List.{reverse-append, get_or-set_same, set-set, drop_more}
pub use Rattle.std.proofs.lemmas.List.Elements.{All-contains}
pub use Rattle.std.proofs.lemmas.List.Sorted.{answers_always}
pub use Rattle.std.proofs.lemmas.List.Sums.{sum_by-append, sum_by-cons}
pub use Rattle.std.specs.List.{Contains, sum_by}
pub use Rattle.std.specs.List.Sorted.{IsStrictlyIncreasing}
pub use Rattle.std.specs.Vec.{with_items}
pub use mathlib.Core.Logic.{dite}
pub use native.Mathlib.Decide.{ℕ_discrete, dec_lt}
pub use Rattle.chip_graph.proofs.PickLemmas.{All-picked}
pub use Rattle.chip_graph.proofs.SumLemmas.{cond_yes, tested_none, tested_term, one_at_most, tested_ext}
pub use Rattle.chip_graph.proofs.SumLemmas.{picked_sum, tested_scale, tested_move}
pub use Rattle.chip_graph.specs.Multigraph.{edges_out, degree, edge_at, edges_in, Multigraph}
pub use Rattle.chip_graph.specs.Sums.{sum_below}
pub use Rattle.chip_link.proofs.StatesLemmas.{tail_clears, tail_claims, tail_puts, head_takes}
pub use Rattle.chip_link.specs.Ends.{HeadState, new_head, TailState, message_claimed, tail_after_claim}
pub use Rattle.chip_link.specs.Ends.{tail_after_clear, head_after_take, head_cell, message_taken, claim_words, put_of}
pub use Rattle.chip_link.specs.Ends.{tail_cell, may_clear, tail_after_put, place_for}
pub use Rattle.chip_link.specs.Link.{Tail, claims_of, after_put, tail_state}
pub use Rattle.chip_link.specs.Link.{head_state}
pub use Rattle.chip_link.specs.Words.{claims_in}
pub use Rattle.chip_link.specs.declared.message.Message.{Message}
pub use Rattle.chip_detect.proofs.AllowedLemmas.{within_owed}
pub use Rattle.chip_detect.proofs.FreshLemmas.{stand_in_order}
pub use Rattle.chip_detect.proofs.IndicesLemmas.{FoundAt, searched}
pub use Rattle.chip_detect.proofs.ListLemmas.{not_some}
pub use Rattle.chip_detect.proofs.LookupsLemmas.{ascends, Ascends, ascends_tail, not_in_front}
pub use Rattle.chip_detect.proofs.SoundnessLemmas.{parent_goes_with_all}
pub use Rattle.chip_detect.specs.Acknowledging.{acknowledgeable_count, is_parent}
pub use Rattle.chip_detect.specs.Books.{Books, IsSound, AreFreshBooks, in_edges, out_edges, got_of, sent_of, settled_of}
pub use Rattle.chip_detect.specs.Slot.{IsSlotOf}
pub use Rattle.chip_detect.specs.Steps.{Gets, Acknowledges, Settles, Sends}
pub use Rattle.chip_detect.specs.Tally.{message_limit, edges_of}
pub use Rattle.chip_detect.specs.declared.slot.Slot.{Slot}
pub use Rattle.chip_part.proofs.CursorLemmas.{event_of_act, Passes, act_is_some, passes_due, is_next, is_over}
pub use Rattle.chip_part.proofs.EdgeLemmas.{tail_graph, head_graph, head_root, over_outs_graph, over_ins_graph}
pub use Rattle.chip_part.proofs.OpeningLemmas.{opening_keeps, first_few}
pub use Rattle.chip_part.proofs.PartLemmas.{tail_inside, events_keep, idle_take, took_some, may_le}
pub use Rattle.chip_part.proofs.PickedLemmas.{outs_rise, ins_rise, among_new_outs, among_new_ins, picked_passes}
pub use Rattle.chip_part.proofs.PickedLemmas.{length-picked, outs_below}
pub use Rattle.chip_part.proofs.RuleLemmas.{rules_met, vertex_clear}
pub use Rattle.chip_part.proofs.TurnLemmas.{at_most_one}
pub use Rattle.chip_part.proofs.TurnStepsLemmas.{in_enters, out_leaves, take_due, takes_over, settle_due, settles_over}
pub use Rattle.chip_part.proofs.TurnStepsLemmas.{fire_due, no_fire_due, puts_over, puts_fit, refusal_none, sends_begin}
pub use Rattle.chip_part.proofs.TurnStepsLemmas.{send_due, sends_to, sends_over, claim_due, claim_over, store_due}
pub use Rattle.chip_part.proofs.TurnStepsLemmas.{stop_due, no_limit_due, ack_due, acks_to, acks_over, no_parent}
pub use Rattle.chip_part.proofs.TurnStepsLemmas.{parent_due, no_parent_due, may_fire_pays, limit_due, put_due}
pub use Rattle.chip_part.proofs.TurnStepsLemmas.{refusal_due, refusal_over}
pub use Rattle.chip_part.specs.Acting.{act_of, event_of, CanDo, IsOperationDue}
pub use Rattle.chip_part.specs.Counting.{is_work}
pub use Rattle.chip_part.specs.Cursor.{IsAt, GoesBy, most_left, out_at}
pub use Rattle.chip_part.specs.Edges.{all_edges, tail_of, mult_of, graph_edges, root_edge, head_of, over_outs}
pub use Rattle.chip_part.specs.Kept.{KeepsPart}
pub use Rattle.chip_part.specs.Part.{opening_part, first_put, Part, cause, is_by_limit, owed_on, outstanding_on, deficit_of}
pub use Rattle.chip_part.specs.Part.{owed_by, is_legal, is_passive, may_ack_on, Out, refusals}
pub use Rattle.chip_part.specs.Rules.{Event, unmet_rule, Take, Ack, Fire, Clear, Claim, Put, Halt, Settle}
pub use Rattle.chip_part.specs.Setting.{Setting, IsSetting, setting_with}
pub use Rattle.chip_part.specs.Steps.{part_of, message_of, does, saw, Step, link_after, pending_after, got_after}
pub use Rattle.chip_part.specs.Turn.{may_fire, batch_of, is_at_limit}
pub use Rattle.chip_part.specs.declared.act.Act.{Act}
pub use Rattle.chip_part.specs.declared.cause.Cause.{Cause}
pub use Rattle.chip_part.specs.declared.cursor.Cursor.{Cursor}
pub use Rattle.chip_part.specs.declared.reply.Reply.{Reply}
pub use Rattle.chip_part.specs.declared.reply.Reply.TheVariants.{Done, Got, Sent, Empty, Full, Sealed}
pub use Rattle.chip_actor.specs.Actor.{Actor, StandsFor, is_passive_now, SomePart, WhateverPart, ActorMakes, with_sent}
pub use Rattle.chip_actor.specs.Actor.{is_legal_now, KnowsGame, KeepsBooks, out_end, with_taken}
pub use Rattle.chip_actor.specs.Ends.{OutEnd, OutEnds, InEnds, on_edge, no_out, fresh_out, IsFreshOuts, IsFreshIns}
pub use Rattle.chip_actor.specs.Ends.{out_on, in_on, AreApart, ChangesOut, ChangesIn, out_ends_of, in_ends_of, out_after_claim}
pub use Rattle.chip_actor.specs.Ends.{ChangesOuts, out_after_clear, out_after_put, out_after_fire, with_end}
pub use Rattle.chip_actor.specs.Ends.{IsFirstFrom}
pub use Rattle.chip_actor.specs.Medium.{IsDueBy, Holding, MayServe, Serves, Meets, Moves, TurnGoesOn, MakesTurnOver, AreOf}
pub use Rattle.chip_actor.specs.Turning.{DueAt, MayBeAt}
pub use Rattle.chip_actor.specs.contracts.actor.ActorState.{the_view}
