use Rattle.std.proofs.Common.{◌≡◌, ◌++◌, string_bytes}
use Rattle.chip_part.specs.Part.{deficit_of}
use Rattle.chip_part.specs.Edges.{root}
use Rattle.chip_core.specs.Core.{part_in}
use Rattle.chip_world.specs.World.{WhateverLog}
use Rattle.chip_engine.specs.Board.{root_line, vertex_lines}
use Rattle.chip_engine.proofs.board.push_board.Given as goal

abbrev pub invariant-loop-vertex : goal.invariant-loop-vertex
invariant-loop-vertex l = WhateverLog l.world (λ g log. string_bytes l.lines
    ≡ string_bytes l.fn.lines ++ (root_line (deficit_of g (root g) (part_in g log (root g)))
    ++ vertex_lines g log l.vertex))
