-- The members of a graph file, as far as they were read.
use Rattle.std.specs.Prelude.{◌≡◌, ◌⊎◌, ℕ, ◌+◌, ◌<◌, List, true, false, codes, Option, None}
use Rattle.std.specs.Prelude.{Some, option_and_then, Result, Ok, Err, ⊤, Vec}
use Rattle.std.specs.declared.alloc.Global.{Global}
use Rattle.serde_json.specs.Data.{Data, Members, no_members, member, put}
use Rattle.serde_json.specs.Find.{get_member, as_array}
use Rattle.chip_file.specs.GraphFile.{number_of_value, edges_of_rows, members_count}
use Rattle.chip_graph.specs.declared.edge.Edge.{Edge}
use Rattle.chip_graph.specs.Multigraph.{Multigraph}
use Rattle.chip_file.specs.declared.graph_text.file.Parts.{Parts}
use Rattle.chip_file.specs.declared.graph_text.file.GraphFile.{GraphFile as Kept}
use Rattle.chip_file.specs.declared.fault.FileFault.{FileFault}
use Rattle.chip_file.specs.declared.fault.FileFault.TheVariants.{NotJson, Shape, NoMemory}
use Rattle.chip_file.specs.GraphFile.{GraphFile, file_of_value, json_of}
use Rattle.chip_file.specs.JsonRows.{KeepsEdges, KeepsAny}

-- a member, if it is there
abbrev pub add_member : List ℕ → Option Data → Members → Members
add_member name None ms = ms
add_member name (Some d) ms = member name d ms

-- the members of these four names alone, in order
abbrev pub known_members : Option Data → Option Data → Option Data → Option Data → Members
known_members edges sink version vertices =
    add_member (codes "edges") edges (add_member (codes "sink") sink
    (add_member (codes "version") version (add_member (codes "vertices") vertices no_members)))

-- the number of values: one or none
abbrev pub value_count : Option Data → ℕ
value_count None = 0
value_count (Some d) = 1

-- the number of the four names that are there
abbrev pub known_count : Members → ℕ
known_count ms =
    value_count (get_member (codes "edges") ms) + value_count (get_member (codes "sink") ms)
    + value_count (get_member (codes "version") ms) + value_count (get_member (codes "vertices") ms)

-- a name is none of the four
pub record IsOther (name : List ℕ) : Type 0 where
  pub edges : codes "edges" ≡ name → ⊥
  pub sink : codes "sink" ≡ name → ⊥
  pub version : codes "version" ≡ name → ⊥
  pub vertices : codes "vertices" ≡ name → ⊥

-- a member is there that is none of the four
abbrev pub IsCrowded : Members → Type 0
IsCrowded ms = known_count ms < members_count ms

-- the members that were found are those that the parts are of, or there is one that is none of the four
abbrev pub Stands : ℕ → Members → Parts → Type 0
Stands most found parts =
    ((parts.others ≡ false)
    × (edges : Option Data) × (sink : Option Data) × (version : Option Data) × (vertices : Option Data)
    × (found ≡ known_members edges sink version vertices)
    × (option_and_then number_of_value version ≡ parts.version)
    × (option_and_then number_of_value vertices ≡ parts.vertices)
    × (option_and_then number_of_value sink ≡ parts.sink)
    × KeepsAny most (option_and_then edges_of_rows (option_and_then as_array edges)) parts.edges)
    ⊎ ((parts.others ≡ true) × IsCrowded found)

-- with one more member the parts still stand for what was found
abbrev pub Takes : ℕ → List ℕ → Data → Parts → Parts → Type 0
Takes most name d old new = (found : Members) → Stands most found old → Stands most (put name d found) new

-- the graph of a file whose edges are kept
abbrev pub KeepsGraph : ℕ → Multigraph → Kept → Type 0
KeepsGraph most graph kept =
    (graph.vertices ≡ kept.vertices) × (graph.sink ≡ kept.sink) × KeepsEdges most graph.edges kept.edges.items

-- a file whose edges are kept
abbrev pub KeepsFile : ℕ → Option GraphFile → Option Kept → Type 0
KeepsFile most (Some file) (Some kept) = (file.version ≡ kept.version) × KeepsGraph most file.graph kept
KeepsFile most None None = ⊤
KeepsFile most _ _ = ⊥

-- the file of these parts, if each is there
abbrev pub kept_of : Option ℕ → Option ℕ → Option ℕ → Option (Vec Edge Global) → Option Kept
kept_of (Some version) (Some vertices) (Some sink) (Some edges) =
    Some (record { version = version; vertices = vertices; sink = sink; edges = edges })
kept_of _ _ _ _ = None

-- what a value is as a file
abbrev pub IsFile : ℕ → Data → Option Kept → Type 0
IsFile most d kept = KeepsFile most (file_of_value d) kept

-- the results of reading a text: the file that its value is, with at most `most` edges asked for
abbrev pub GivesFile : ℕ → List ℕ → Result Kept FileFault → Type 0
GivesFile most text (Ok kept) = (d : Data) × (json_of text ≡ Some d) × IsFile most d (Some kept)
GivesFile most text (Err f) =
    (f ≡ NoMemory) ⊎ ((f ≡ NotJson) × (json_of text ≡ None)) ⊎ ((f ≡ Shape) × (d : Data) × (json_of text ≡ Some d)
    × (file_of_value d ≡ None))
