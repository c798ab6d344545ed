use Rattle.std.proofs.Common.{arith}
use Rattle.chip_fire.proofs.PlayLemmas.{no_rounds, round_more}
use Rattle.chip_fire.proofs.rounds.make_rounds.Goals as goal

pub loop-made-init : goal.loop-made-init
loop-made-init c = record { begun = c.requires.begun; rounds = no_rounds _ _ _ }

pub loop-made-preserved : goal.loop-made-preserved
loop-made-preserved c = record {
  begun = c.round-count.ensures.begun;
  rounds = rw c.saturating_add.ensures
      (round_more _ _ _ _ _ _ _ _ _ c.loop-made.invariant.rounds c.round-count.ensures (omega arith));
}
