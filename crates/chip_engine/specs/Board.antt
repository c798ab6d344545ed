-- The board: the books of the detector, as the lines that `simulate` writes after a reply.
use Rattle.std.specs.Prelude.{ℕ, zero, suc, List, [], ◌++◌, ◌==◌, if◌then◌else◌, codes, flat_map, Option, Some, None}
use Rattle.std.specs.Fmt.{decimal}
use Rattle.chip_graph.specs.Multigraph.{edges_in}
use Rattle.chip_part.specs.Setting.{Setting}
use Rattle.chip_part.specs.Part.{owed_on, deficit_of}
use Rattle.chip_part.specs.Edges.{root, root_edge}
use Rattle.chip_core.specs.Core.{Log, part_in, into_in}

-- an edge with the number of acknowledgements that its head owes on it, if any
abbrev pub owed_text : Setting → Log → ℕ → List ℕ
owed_text g log e =
    if owed_on (into_in g log e) == 0 then []
    else (codes " " ++ decimal e ++ codes ":" ++ decimal (owed_on (into_in g log e)))

-- the start of a vertex's line: its parent edge and its deficit
abbrev pub books_text : ℕ → ℕ → ℕ → List ℕ
books_text v parent deficit =
    codes "  vertex " ++ decimal v ++ codes " parent " ++ decimal parent
    ++ codes " deficit " ++ decimal deficit ++ codes " owes"

-- the line of a vertex that is engaged by this edge, with what it owes, on its root edge last; a neutral one has none
abbrev pub vertex_line : Setting → Log → ℕ → Option ℕ → List ℕ
vertex_line g log v None = []
vertex_line g log v (Some parent) =
    books_text v parent (deficit_of g v (part_in g log v))
    ++ flat_map (owed_text g log) (edges_in g.game.graph v) ++ owed_text g log (root_edge g v) ++ codes "\n"

-- the lines of the vertices below n
abbrev pub vertex_lines : Setting → Log → ℕ → List ℕ
vertex_lines g log zero = []
vertex_lines g log (suc n) = vertex_lines g log n ++ vertex_line g log n (part_in g log n).parent

-- the line of the root, with its deficit
abbrev pub root_line : ℕ → List ℕ
root_line deficit = codes "  root deficit " ++ decimal deficit ++ codes "\n"

-- the line of the root, and those of the vertices
abbrev pub board_text : Setting → Log → List ℕ
board_text g log = root_line (deficit_of g (root g) (part_in g log (root g))) ++ vertex_lines g log g.game.graph.vertices
