use Rattle.std.proofs.Common.{◌≡◌, take, flat_map, string_bytes}
use Rattle.chip_engine.specs.ReplayCommand.{firing_text}
use Rattle.chip_engine.proofs.replay.lines_of.Given as goal

abbrev pub invariant-loop-vertex : goal.invariant-loop-vertex
invariant-loop-vertex l = string_bytes l.lines ≡ flat_map firing_text (take l.vertex-index l.firings)
