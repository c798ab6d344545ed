use Rattle.std.proofs.Common.{◌≡◌, ◌++◌, take, flat_map, string_bytes}
use Rattle.chip_engine.specs.ReplayCommand.{left_text}
use Rattle.chip_engine.proofs.replay.push_all_left.Given as goal

abbrev pub invariant-loop-one : goal.invariant-loop-one
invariant-loop-one l =
    string_bytes l.lines ≡ string_bytes l.fn.lines ++ flat_map left_text (take l.one-index l.left)
