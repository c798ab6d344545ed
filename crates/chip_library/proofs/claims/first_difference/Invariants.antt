use Rattle.std.proofs.Common.{ℕ, ◌<◌}
use Rattle.chip_library.specs.Claims.{AgreesAt}
use Rattle.chip_library.proofs.claims.first_difference.Given as goal

abbrev pub invariant-loop-vertex : goal.invariant-loop-vertex
invariant-loop-vertex l = (v : ℕ) → v < l.vertex → AgreesAt l.outcome l.fired l.ends v
