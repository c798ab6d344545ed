-- The words that the proofs of this crate take from elsewhere, in one place. Declares nothing.
pub use Rattle.std.proofs.Common.{◌^◌, ◌≡◌, ℕ, zero, suc, ◌+◌, ◌*◌, ◌%◌, ◌<◌, ◌≤◌, ◌-◌, ◌==◌, max, List, length, Option}
pub use Rattle.std.proofs.Common.{Some, None, take, get_or, set, length-take, refl, sym, ap, subst, arith, add-one}
pub use Rattle.std.proofs.Common.{zero-add, true, false, Bool, eq-eqb, ne_eqb, [], ◌∷◌, ◌++◌, All, append_assoc}
pub use Rattle.std.proofs.Common.{⊎_elim, ◌⊎◌, is_some, ltb-true, map, if◌then◌else◌, cond, drop, sum_by, length-append}
pub use Rattle.std.proofs.Common.{rules, length-drop, ◌&&◌, append-nil, option_to_list, Bor, false-eqb, IfSome, Result}
pub use Rattle.std.proofs.Common.{Ok, Err, MatchResult, inl, inr}
pub use Rattle.std.proofs.Crossing.{crosses, frees, send, sync}
pub use Rattle.std.proofs.Math.Nat.{mod-add-mod, mod-eq_of_lt, add-mod_right}
pub use Rattle.std.proofs.lemmas.Bool.{and_parts}
pub use Rattle.std.proofs.lemmas.Bool.Decides.{nat_tests}
pub use Rattle.std.proofs.lemmas.List.{length-set, length-map, map-append}
pub use Rattle.std.proofs.lemmas.List.Elements.{All-tail, All-head, All-append, All-push, All-set, All-cons, All-nil}
pub use Rattle.std.proofs.lemmas.List.Elements.{All-drop}
pub use Rattle.std.proofs.lemmas.List.FromFn.{length-range_with_len}
pub use Rattle.std.proofs.lemmas.List.Sorted.{All-permutation, sum_by-IsPermutation, IsNonDecreasingBy-from_sort_by_key}
pub use Rattle.std.proofs.lemmas.List.Sums.{sum_by-set, sum_by-append, AllPass-from_list_all, sum_by-cons, sum_by-le}
pub use Rattle.std.proofs.lemmas.List.Sums.{get_or-le-sum_by, sum_by_push, sum_by-take-drop}
pub use Rattle.std.proofs.lemmas.Nat.{mul-le}
pub use Rattle.std.proofs.lemmas.Option.{slice_get_read, slice_get_past, slice_get_within, get_or_from_slice_get}
pub use Rattle.std.proofs.lemmas.Option.{same_Some, none-some, IfSome_then}
pub use Rattle.std.proofs.lemmas.Result.{MatchResult-weaker}
pub use Rattle.std.specs.Global.{Vec}
pub use Rattle.std.specs.List.{range_with_len}
pub use Rattle.std.specs.List.Sorted.{IsPermutation, IsNonDecreasingBy}
pub use Rattle.std.specs.Option.{option_copied, option_zip}
pub use Rattle.std.specs.Prelude.{slice_get}
pub use Rattle.std.specs.Result.{result_err}
pub use Rattle.std.specs.Vec.{vec_capacity}
pub use Rattle.atomic_table.specs.Seated.{TableId}
pub use Rattle.crossbeam_queue.proofs.Lists.{set_else, drop_at}
pub use Rattle.crossbeam_queue.specs.Fifo.{Pushes, Pops, Forks, Merges, Learns, Held}
pub use Rattle.crossbeam_queue.specs.Passes.{view, IsPassOf}
pub use base.Fml.{Lft}
pub use denote.Param.{param}
pub use denote.Param.Send.{IsSend, IsSync, sendable, shr_send}
pub use denote.Param.SendFields.{declared_send}
pub use denote.RattleType.{RattleType}
pub use denote.Ref.{NamedLft}
pub use lib.ListN.{get_elem?}
pub use mathlib.Core.Option.{some, some-injective, some-ne-none}
pub use mir.Syntax.{Lifetime}
pub use Rattle.chip_graph.proofs.PickLemmas.{All-picked}
pub use Rattle.chip_graph.proofs.SumLemmas.{cond_yes, tested_le}
pub use Rattle.chip_graph.specs.ChipGame.{ChipGame}
pub use Rattle.chip_graph.specs.More.{HasMore}
pub use Rattle.chip_graph.specs.Multigraph.{Multigraph, edge_at, edges_in}
pub use Rattle.chip_sequence.specs.declared.outcome.Outcome.{Outcome}
pub use Rattle.chip_part.proofs.PickedLemmas.{length-picked}
pub use Rattle.chip_part.specs.Cursor.{from_settling}
pub use Rattle.chip_part.specs.Edges.{root_edge, graph_edges, all_edges, tail_of, root}
pub use Rattle.chip_part.specs.Part.{Part, deficit_of, outstanding_on}
pub use Rattle.chip_part.specs.Rules.{Clear, Take}
pub use Rattle.chip_part.specs.Setting.{Setting, setting_with}
pub use Rattle.chip_part.specs.Steps.{does, saw}
pub use Rattle.chip_part.specs.Turn.{Phase, and_then, each_phase, one_step, ins_of, outs_of, sending, turn, sending_all}
pub use Rattle.chip_core.specs.Core.{Step, Event, Settle, End, opening_part, Seal}
pub use Rattle.chip_core.specs.Histories.{part_by}
pub use Rattle.chip_core.specs.Positions.{fed_of, fed_in}
pub use Rattle.chip_net.proofs.CrossingLemmas.{actor_send, net_crosses}
pub use Rattle.chip_net.proofs.FinishingLemmas.{one_run}
pub use Rattle.chip_net.proofs.ViewingLemmas.{part_append}
pub use Rattle.chip_net.specs.Roots.{RootKnown, root_part, root_after, has_ended, fed_by, FeedsChips, ReadsFullCell}
pub use Rattle.chip_net.specs.Roots.{feed_steps, settles_from, IsPolling, Ends, new_root, IsRootOver, StopperKnown}
pub use Rattle.chip_net.specs.Roots.{root_deficit, new_stopper}
pub use Rattle.chip_net.specs.Tokens.{ActorKnown, MakesTurn, NetId, newcomer, part_known}
pub use Rattle.chip_net.specs.declared.actor.Turn.{Turn}
pub use Rattle.chip_net.specs.declared.poll.RootState.{RootState}
pub use Rattle.chip_crew.specs.Asked.{Asked, passes, SomeShut, root_of, ShutFor, asked_of}
pub use Rattle.chip_crew.specs.Crew.{CrewId, IsOurs, IsAt, AreFrom, turns_of, all_turns, AreActors, EachFrom}
pub use Rattle.chip_crew.specs.Crew.{AreAscendingActors, is_root_take}
pub use Rattle.chip_crew.specs.Dealing.{ends_at, ends_before, IsShareStart, IsFirstOf, AreActorsOf, IsRoundOfTurns}
pub use Rattle.chip_crew.specs.Duties.{BeginsEach, EndsIf, ServesTurns}
pub use Rattle.chip_crew.specs.Ending.{EndsWell, StaysOpen, EndsLed, StaysUnfinished}
pub use Rattle.chip_crew.specs.Feeding.{Left, pairs, MayFeed, MayFeedLeft, FeedsNext, EndsAfter, FeedsOnce, PollsIf}
pub use Rattle.chip_crew.specs.Feeding.{IsLed}
pub use Rattle.chip_crew.specs.Finished.{CanPlay, IsCrewFor, HasFinished, IsWhole, IsFinished, IsCrewStopped, IsFaultOf}
pub use Rattle.chip_crew.specs.Gathering.{AreGathered, IsGatheringFor, AreBack, IsRow, queue_for}
pub use Rattle.chip_crew.specs.Handed.{HasDealt, HasMade, HasWorked, round_of, queue_of, IsReady, AreReady}
pub use Rattle.chip_crew.specs.Joining.{IsWorker, queue_of_all}
pub use Rattle.chip_crew.specs.Leading.{HasLed, CanLead, IsLeader, LeadsTurn, LeadsRound}
pub use Rattle.chip_crew.specs.Ledger.{got_turns, gave_turns, first_ledger, new_ledger, with_fewer, both_ledgers}
pub use Rattle.chip_crew.specs.Ledger.{no_ledger, with_actor, with_put, HasJust, IsNextActor, EndsTurn, TurnsMade}
pub use Rattle.chip_crew.specs.Ledger.{kept_turns}
pub use Rattle.chip_crew.specs.Places.{times, actors_of, AreAllThere, HasNothing, AreShared, HaveRoom}
pub use Rattle.chip_crew.specs.Plans.{is_plan, seals_edge, are_feeds, max_workers, max_turns}
pub use Rattle.chip_crew.specs.Rounds.{TurnsThere, TurnsAt, RoundsMade}
pub use Rattle.chip_crew.specs.Sealing.{events_of, HasBack, HasSealed, TakesBack, KnowsSeals, SealsBefore, MaySeal}
pub use Rattle.chip_crew.specs.Sealing.{seals_by}
pub use Rattle.chip_crew.specs.declared.fault.CrewFault.{CrewFault}
pub use Rattle.chip_crew.specs.declared.leader.Leader.{Leader}
pub use Rattle.chip_crew.specs.declared.plan.Plan.{Plan}
pub use Rattle.chip_crew.specs.declared.plan.SealAt.{SealAt}
pub use Rattle.chip_crew.specs.declared.plan.Sharing.{Sharing}
pub use Rattle.chip_crew.specs.declared.play.Finished.{Finished}
pub use Rattle.chip_crew.specs.declared.queue.Crew.{Ghosts}
pub use Rattle.chip_crew.specs.declared.queue.Ledger.{Ledger}
pub use Rattle.chip_crew.specs.declared.worker.Share.{Share}
