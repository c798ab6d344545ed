use Rattle.std.proofs.Common.{◌≡◌, ◌∙◌}
use Rattle.chip_fire.proofs.PlayLemmas.{sweep_rests, sweep_sink, sweep_fires}
use Rattle.chip_fire.proofs.rounds.sweep.Goals as goal
use Rattle.chip_fire.proofs.rounds.sweep.Goals.{then-vertex-sink+then-turn, else-vertex-sink}
use Rattle.chip_fire.proofs.rounds.sweep.Goals.{else-vertex-sink-via-then-vertex-sink+else-turn}
use Rattle.chip_fire.proofs.rounds.sweep.Goals.{else-vertex-sink-via-else-vertex-sink}

pub loop-step-preserved : goal.loop-step-preserved
loop-step-preserved c =
    elim c.if-vertex-sink.branch [
      | then-vertex-sink+then-turn w ↦
          let fires = rw w.if-turn.true at w.turn.ensures.fires in
          rw (w.chips-is, w.fired-is, w.count-is)
          (sweep_fires _ _ _ _ _ _ _ _ _ c.loop-step.invariant _ _ w.turn.ensures.in_range w.turn.ensures.stays
          w.turn.ensures.rises fires)
      | else-vertex-sink w ↦ elim w.else-vertex-sink.branch [
        | else-vertex-sink-via-then-vertex-sink+else-turn w' ↦
            let rests = rw w'.if-turn.false at w'.turn.ensures.rests in
            let chips_same : c.if-vertex-sink.chips ≡ c.loop-step.chips = w.chips-is ∙ w'.chips-is ∙ rests.0 in
            let fired_same : c.if-vertex-sink.fired ≡ c.loop-step.fired = w.fired-is ∙ w'.fired-is ∙ rests.1 in
            rw (chips_same, fired_same, w.count-is) (sweep_rests _ _ _ _ _ _ _ _ _ c.loop-step.invariant rests.2)
        | else-vertex-sink-via-else-vertex-sink w' ↦
            let chips_same : c.if-vertex-sink.chips ≡ c.loop-step.chips = w.chips-is ∙ w'.chips-is in
            let fired_same : c.if-vertex-sink.fired ≡ c.loop-step.fired = w.fired-is ∙ w'.fired-is in
            rw (chips_same, fired_same, w.count-is)
            (sweep_sink _ _ _ _ _ _ _ _ _ c.loop-step.invariant (w'.if-vertex-sink.false
            ∙ c.sink-sink.ensures.value))
      ]
    ]
