-- Serves Kept.antt.
-- A replay while it runs.
use Rattle.chip_trace.proofs.Names.{◌≡◌, ℕ, ◌+◌, ◌^◌, ◌<◌, List, ◌∙◌, arith, TraceRow, ChipGame, ReplayProgress}
use Rattle.chip_trace.proofs.Names.{ReplayAgenda, IsReplayKept, MayUse, UsesRow, work_left, ReplayGoesOn}
use Rattle.chip_trace.proofs.KeptLemmas.{kept_after, left_after}

-- using it goes on, and leaves less to do
pub use_goes_on : {g : ChipGame} {traces : List (List TraceRow)} {p : ReplayProgress} (a : ReplayAgenda)
    (q : ReplayProgress) (b : ReplayAgenda) {v : ℕ} {row : TraceRow} → v < g.graph.vertices → IsReplayKept g traces p →
    MayUse g traces p v row → UsesRow v row p q → b.vertices ≡ a.vertices → b.due < a.due + 2 ^ 64
    → ReplayGoesOn g traces p a q b × (work_left traces q b < work_left traces p a)
use_goes_on {g} {traces} {p} a q b {v} {row} is_vertex kept may uses same few =
    let fewer = left_after g traces p q v row kept is_vertex may uses in (
      record { kept = kept_after g traces p q v row kept is_vertex may uses; same = same; work = omega arith },
      omega arith,
    )

-- going on and on
pub GoesOn-trans : {g : ChipGame} {traces : List (List TraceRow)} {p q r : ReplayProgress} {a b c : ReplayAgenda}
    → ReplayGoesOn g traces p a q b → ReplayGoesOn g traces q b r c → ReplayGoesOn g traces p a r c
GoesOn-trans first second = record { kept = second.kept; same = second.same ∙ first.same; work = omega arith }
