use Rattle.std.proofs.Common.{◌≡◌, ℕ, List, ◌++◌, add-one, append_assoc, append-nil}
use Rattle.chip_part.specs.Part.{deficit_of}
use Rattle.chip_part.specs.Edges.{root}
use Rattle.chip_core.specs.Core.{part_in}
use Rattle.chip_engine.specs.Board.{root_line}
use Rattle.chip_engine.proofs.board.push_board.Goals as goal

-- one line more
line_more : (old first lines line : List ℕ) → (old ++ (first ++ lines)) ++ line ≡ old ++ (first ++ (lines ++ line))
line_more old first lines line = simp append_assoc

pub loop-vertex-init : goal.loop-vertex-init
loop-vertex-init c = λ g log stands. rw (append-nil, ← c.root_deficit.ensures g log stands) c.in_ok-push_root.ensures

pub loop-vertex-preserved : goal.loop-vertex-preserved
loop-vertex-preserved c = λ g log stands.
    rw (add-one c.loop-vertex.vertex, c.in_ok-push_vertex.ensures g log stands, c.loop-vertex.invariant g log stands)
    (line_more _ (root_line (deficit_of g (root g) (part_in g log (root g)))) _ _)
