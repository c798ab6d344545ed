use Rattle.std.proofs.Common.{Bool, List, inl, inr, refl, ap, map}
use Rattle.chip_graph.specs.ChipGame.{ChipGame}
use Rattle.chip_link.specs.declared.trace.TraceRow.{TraceRow}
use Rattle.chip_trace.specs.declared.fault.ReplayFault.{ReplayFault}
use Rattle.chip_trace.specs.declared.fault.ReplayFault.TheVariants as replay_fault
use Rattle.chip_trace.specs.Replay.{IsReplayFault}
use Rattle.chip_command.specs.Faults.{fault_of_replay}
use Rattle.chip_command.specs.Statuses.{number_of_status}
use Rattle.chip_command.proofs.CommandLemmas.{handed_on}
use Rattle.chip_command.proofs.InputLemmas.{at_some}
use Rattle.chip_engine.specs.ReplayCommand.{replaying}
use Rattle.chip_engine.proofs.replay.replay_traces.Goals as goal

-- why traces are not replayed
not_replayed : (complete : Bool) (g : ChipGame) (traces : List (List TraceRow)) (f : ReplayFault)
    → IsReplayFault g traces f → (replaying complete g traces).refuses (fault_of_replay f)
not_replayed complete g traces (replay_fault.Stuck vertex row) stuck = inl (vertex, row, refl, stuck)
not_replayed complete g traces replay_fault.NoMemory stuck = inr refl

pub replay_complete-requires : goal.replay_complete-requires
replay_complete-requires g c = rw (c.deref.ensures.value, ← c.graph.ensures.value) c.in_ok-traces.ensures.each

pub returns-in_err-traces : goal.returns-in_err-traces
returns-in_err-traces g c = rw (handed_on _ c.from_residual.ensures.1) (inl (λ text text_is.
    let why = at_some _ _ text text_is c.in_err-traces.ensures.means in
    (c.in_err-traces.field-0.0, refl, rw c.graph.ensures.value at why)))

pub returns-in_err-replayed : goal.returns-in_err-replayed
returns-in_err-replayed g c = rw (handed_on _ c.from_residual-in_err-replayed.ensures.1) (inr (
  map (λ t. t.items) c.in_ok-traces.traces.items,
  (λ text is. let read = at_some _ _ text is c.in_ok-traces.ensures.means in rw c.graph.ensures.value at read),
  not_replayed c.args.options.complete c.args.game.now _ c.in_err-replayed.field-0.0
      (rw c.deref.ensures.value at c.in_err-replayed.ensures),
))

pub returns-in_err-tell : goal.returns-in_err-tell
returns-in_err-tell g c = rw (handed_on _ c.from_residual-in_err-tell.ensures.1) (inr (
  map (λ t. t.items) c.in_ok-traces.traces.items,
  (λ text is. let read = at_some _ _ text is c.in_ok-traces.ensures.means in rw c.graph.ensures.value at read),
  inr refl,
))

pub returns : goal.returns
returns g c = let is = rw c.deref.ensures.value at c.in_ok-replayed.ensures in (
  map (λ t. t.items) c.in_ok-traces.traces.items,
  (λ text is. let read = at_some _ _ text is c.in_ok-traces.ensures.means in rw c.graph.ensures.value at read),
  record {
    fired = c.in_ok-replayed.replayed.firings.items;
    are_firings = is.firings;
    lines = rw is.left at c.in_ok-tell.ensures.text;
    status_is = rw is.left at (ap number_of_status c.in_ok-tell.ensures.status);
  },
)
