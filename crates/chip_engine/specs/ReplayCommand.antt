-- From the bytes of a graph file, a chips file and a trace file to the lines of the firings, and of what is left.
use Rattle.std.specs.Prelude.{◌≡◌, ℕ, List, [], ◌∷◌, ◌++◌, codes, flat_map, Bool, if◌then◌else◌, Option, Some, Result}
use Rattle.std.specs.Fmt.{decimal}
use Rattle.chip_graph.specs.ChipGame.{ChipGame}
use Rattle.chip_link.specs.declared.trace.TraceRow.{TraceRow}
use Rattle.chip_file.specs.TraceText.{traces_of_text, trace_text_fault}
use Rattle.chip_trace.specs.Interleaving.{trace_of}
use Rattle.chip_trace.specs.Left.{left_after}
use Rattle.chip_trace.specs.Replay.{AreFirings}
use Rattle.chip_trace.specs.Progress.{IsStuck}
use Rattle.chip_trace.specs.declared.remaining.Left.{Left}
use Rattle.chip_trace.specs.declared.remaining.Left.TheVariants.{Messages, CanFire, AtLimit}
use Rattle.chip_engine.specs.declared.replay.ReplayOptions.{ReplayOptions}
use Rattle.chip_command.specs.CommandAnswers.{Spec, bind, CommandAnswers, OrMemory}
use Rattle.chip_command.specs.Inputs.{reading, reading_game}
use Rattle.chip_command.specs.Statuses.{number_of_status}
use Rattle.chip_command.specs.declared.ended.Ended.{Ended}
use Rattle.chip_command.specs.declared.fault.Fault.{Fault}
use Rattle.chip_command.specs.declared.fault.Fault.TheVariants.{Stuck}
use Rattle.chip_command.specs.declared.status.Status.{Status}
use Rattle.chip_command.specs.declared.status.Status.TheVariants.{Done, Halted}

-- the line of a firing: its vertex, and how many firings it is in a row
abbrev pub firing_text : ℕ × ℕ → List ℕ
firing_text firing = codes "fire " ++ decimal firing.0 ++ codes " " ++ decimal firing.1 ++ codes "\n"

-- the line of what is left of an edge or a vertex
abbrev pub left_text : Left → List ℕ
left_text (Messages edge count) =
    codes "left: edge " ++ decimal edge ++ codes " has " ++ decimal count ++ codes " messages\n"
left_text (CanFire vertex) = codes "left: vertex " ++ decimal vertex ++ codes " can fire\n"
left_text (AtLimit vertex) = codes "left: vertex " ++ decimal vertex ++ codes " is at its limit\n"

-- the status of a replay that left this
abbrev pub status_of_left : List Left → Status
status_of_left [] = Done
status_of_left (first ∷ others) = Halted

-- what is written as left when all rows of the traces are used: all of it, if asked
abbrev pub told_left : Bool → ChipGame → List (List TraceRow) → List Left
told_left complete g traces = if complete then left_after g (trace_of traces) else []

-- a text and a status report the firings of some interleaving of the traces, and what is left if asked
pub record ReplaysTraces (complete : Bool) (g : ChipGame) (traces : List (List TraceRow)) (text : List ℕ)
    (status : ℕ) : Type 0 where
  pub fired : List (ℕ × ℕ)
  pub are_firings : AreFirings g traces fired
  pub lines : text ≡ flat_map firing_text fired ++ flat_map left_text (told_left complete g traces)
  pub status_is : status ≡ number_of_status (status_of_left (told_left complete g traces))

-- replaying traces reports their result; or they have no interleaving, or there is no memory
abbrev pub replaying : Bool → ChipGame → List (List TraceRow) → Spec (List ℕ × ℕ)
replaying complete g traces = record {
  gives = λ (text, status). ReplaysTraces complete g traces text status;
  refuses = OrMemory (λ fault. (vertex : ℕ) × (row : ℕ) × (fault ≡ Stuck vertex row) × IsStuck g traces vertex row);
}

-- the same for the traces of a reader
abbrev pub replaying_from : ReplayOptions → Option (List ℕ) → ChipGame → Spec (List ℕ × ℕ)
replaying_from options trace g =
    bind (reading options.play.limits (λ text traces. traces_of_text g.graph text ≡ Some traces)
    (λ text f. trace_text_fault g.graph text ≡ Some f) trace) (replaying options.complete g)

-- the results of `replay`: the firings of an interleaving, and what is left if asked; the status is 2 if anything is,
-- and else 0
abbrev pub ReplayAnswers : (graph chips trace : Option (List ℕ)) → ReplayOptions
    → Option (List ℕ) → Option (List ℕ) → Result Ended Fault → Type 0
ReplayAnswers graph chips trace options old new result = CommandAnswers
    (bind (reading_game options.play.limits graph chips options.play.limit) (replaying_from options trace))
    old new result
