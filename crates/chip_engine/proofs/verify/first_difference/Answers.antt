use Rattle.std.proofs.Common.{rules}
use borrow.Author.Count.{below_more}
use Rattle.chip_engine.specs.VerifyCommand.{StageAgreesAt}
use Rattle.chip_engine.proofs.verify.first_difference.Goals as goal

pub loop-vertex-preserved : goal.loop-vertex-preserved
loop-vertex-preserved c = below_more (StageAgreesAt c.args.told.now c.args.outcome.now) c.loop-vertex.vertex c.loop-vertex.invariant
    (c.agrees_at.ensures.0 (search rules))
