use Rattle.std.proofs.Common.{◌≡◌, ◌++◌, take, flat_map, string_bytes}
use Rattle.chip_world.specs.World.{WhateverLog}
use Rattle.chip_engine.specs.Board.{owed_text}
use Rattle.chip_engine.proofs.board.push_all_owed.Given as goal

abbrev pub invariant-loop-edge : goal.invariant-loop-edge
invariant-loop-edge l = WhateverLog l.world (λ g log. string_bytes l.lines
    ≡ string_bytes l.fn.lines ++ flat_map (owed_text g log) (take l.edge-index l.edges))
