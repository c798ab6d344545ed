use Rattle.std.proofs.Common.{string_bytes}
use Rattle.chip_engine.specs.CheckCommand.{IsShownBelow}
use Rattle.chip_engine.proofs.check.show.Given as goal

abbrev pub invariant-loop-vertex : goal.invariant-loop-vertex
invariant-loop-vertex l = IsShownBelow l.graph l.vertex (string_bytes l.text)
