use Rattle.std.proofs.Common.{ℕ, ◌<◌}
use Rattle.chip_engine.specs.VerifyCommand.{StageAgreesAt}
use Rattle.chip_engine.proofs.verify.first_difference.Given as goal

abbrev pub invariant-loop-vertex : goal.invariant-loop-vertex
invariant-loop-vertex l = (u : ℕ) → u < l.vertex → StageAgreesAt l.told l.outcome u
