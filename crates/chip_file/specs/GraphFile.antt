-- The graph file that a text of JSON is.
use Rattle.std.specs.Prelude.{ℕ, suc, ◌==◌, if◌then◌else◌, List, [], ◌∷◌, codes, Option, None, Some}
use Rattle.std.specs.Prelude.{option_map, option_and_then}
use Rattle.std.specs.Option.{option_map_or}
use Rattle.std.specs.Str.{is_utf8}
use Rattle.serde_json.specs.Data.{Data, Items, no_items, item, Members, no_members, member}
use Rattle.serde_json.specs.Read.{read}
use Rattle.serde_json.specs.Find.{get, as_number, as_u64, as_array, as_object}
use Rattle.chip_graph.specs.declared.edge.Edge.{Edge}
use Rattle.chip_graph.specs.Multigraph.{Multigraph}

-- the value of a text: none if it is no UTF-8, or no JSON
abbrev pub json_of : List ℕ → Option Data
json_of text = if is_utf8 text then read text else None

-- the number that a value is, from 0 to 2 ^ 64 - 1
abbrev pub number_of_value : Data → Option ℕ
number_of_value d = option_and_then as_u64 (as_number d)

-- the numbers that the values of an array are
abbrev pub numbers_of : Items → Option (List ℕ)
numbers_of no_items = Some []
numbers_of (item d ds) = option_and_then (λ n. option_map (λ ns. n ∷ ns) (numbers_of ds)) (number_of_value d)

-- three numbers as an edge
abbrev pub edge_of_numbers : List ℕ → Option Edge
edge_of_numbers (tail ∷ head ∷ mult ∷ []) = Some (record { tail = tail; head = head; mult = mult })
edge_of_numbers _ = None

-- the edge that a row of exactly three numbers means
abbrev pub edge_of_row : Data → Option Edge
edge_of_row row = option_and_then edge_of_numbers (option_and_then numbers_of (as_array row))

-- the edges that rows mean, in order
abbrev pub edges_of_rows : Items → Option (List Edge)
edges_of_rows no_items = Some []
edges_of_rows (item row rows) = option_and_then (λ edge. option_map (λ edges. edge ∷ edges) (edges_of_rows rows))
    (edge_of_row row)

-- the number of members
abbrev pub members_count : Members → ℕ
members_count no_members = 0
members_count (member name d ms) = suc (members_count ms)

-- the number of members of an object; another value has none
abbrev pub member_count : Data → ℕ
member_count d = option_map_or members_count (as_object d) 0

-- the number under a name
abbrev pub number_under : List ℕ → Data → Option ℕ
number_under name d = option_and_then number_of_value (get name d)

-- the edges under a name
abbrev pub edges_under : List ℕ → Data → Option (List Edge)
edges_under name d = option_and_then edges_of_rows (option_and_then as_array (get name d))

-- what a graph file says: a version, and rows that may or may not be a graph
pub record GraphFile : Type 0 where
  pub version : ℕ
  pub graph : Multigraph

-- the file of these parts, if each is there
abbrev pub file_of_parts : Option ℕ → Option ℕ → Option ℕ → Option (List Edge) → Option GraphFile
file_of_parts (Some version) (Some vertices) (Some sink) (Some edges) =
    Some (record { version = version; graph = record { vertices = vertices; sink = sink; edges = edges } })
file_of_parts _ _ _ _ = None

-- the graph file that a value is: an object of exactly these four members, as no object has a name twice
abbrev pub file_of_value : Data → Option GraphFile
file_of_value d =
    if member_count d == 4
    then file_of_parts (number_under (codes "version") d) (number_under (codes "vertices") d)
    (number_under (codes "sink") d) (edges_under (codes "edges") d)
    else None
