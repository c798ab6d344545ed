-- The rows of a text, as they come.
use Rattle.std.specs.Prelude.{◌≡◌, ◌⊎◌, ℕ, ◌<◌, List, length, Option, Some, None, option_and_then}
use Rattle.std.specs.Prelude.{Result, Ok, Err, ⊤, Vec}
use Rattle.std.specs.declared.alloc.Global.{Global}
use Rattle.json.specs.Token.{Token}
use Rattle.serde_json.specs.Data.{Data, Items, no_items, item, Members}
use Rattle.serde_json.specs.Find.{as_array}
use Rattle.chip_file.specs.GraphFile.{number_of_value, edges_of_rows}
use Rattle.chip_file.specs.JsonValues.{next_value, ItemsAre, MembersAre}
use Rattle.chip_graph.specs.declared.edge.Edge.{Edge}
use Rattle.chip_file.specs.declared.graph_text.rows.Row.{Row}
use Rattle.chip_file.specs.declared.graph_text.rows.Row.TheVariants as row
use Rattle.chip_file.specs.declared.fault.FileFault.{FileFault}
use Rattle.chip_file.specs.declared.fault.FileFault.TheVariants.{NotJson, NoMemory}

-- a row with one more value, which may be a number
abbrev pub and_number : Row → Option ℕ → Row
and_number row.Empty (Some tail) = row.One tail
and_number (row.One tail) (Some head) = row.Two tail head
and_number (row.Two tail head) (Some mult) = row.Three (record { tail = tail; head = head; mult = mult })
and_number _ _ = row.Other

-- the edge that a row is
abbrev pub edge_in : Row → Option Edge
edge_in (row.Three edge) = Some edge
edge_in _ = None

-- a row with these items after it
abbrev pub and_items : Row → Items → Row
and_items r no_items = r
and_items r (item d ds) = and_items (and_number r (number_of_value d)) ds

-- what is kept of some edges, of which `most` are asked for at most: all, or more than that
abbrev pub KeepsEdges : ℕ → List Edge → List Edge → Type 0
KeepsEdges most all kept = (kept ≡ all) ⊎ ((most < length all) × (most < length kept))

-- what is kept of edges, if there are any
abbrev pub KeepsAny : ℕ → Option (List Edge) → Option (Vec Edge Global) → Type 0
KeepsAny most (Some all) (Some kept) = KeepsEdges most all kept.items
KeepsAny most None None = ⊤
KeepsAny most _ _ = ⊥

-- the items of an array as rows
abbrev pub AreEdgeRows : ℕ → Items → Option (Vec Edge Global) → Type 0
AreEdgeRows most ds kept = KeepsAny most (edges_of_rows ds) kept

-- a value as an array of rows
abbrev pub AreRowsUnder : ℕ → Data → Option (Vec Edge Global) → Type 0
AreRowsUnder most d kept = KeepsAny most (option_and_then edges_of_rows (as_array d)) kept

-- the results of reading a value if memory may run out
abbrev pub MayRead : {T : Type 0} → ℕ → List Token → List Token → (Data → T → Type 0) → Result T FileFault → Type 0
MayRead depth old new Is (Ok x) = (d : Data) × (next_value depth old ≡ Some (d, new)) × Is d x
MayRead depth old new Is (Err f) = (f ≡ NoMemory) ⊎ ((f ≡ NotJson) × (next_value depth old ≡ None))

-- the same for the items that are left of an array
abbrev pub MayReadItems : {T : Type 0} → ℕ → List Token → List Token → (Items → T → Type 0) → Result T FileFault
    → Type 0
MayReadItems depth old new Is (Ok x) = (ds : Items) × ItemsAre depth old (Some (ds, new)) × Is ds x
MayReadItems depth old new Is (Err f) = (f ≡ NoMemory) ⊎ ((f ≡ NotJson) × ItemsAre depth old None)

-- the same for the members that are left of an object, after those that were found
abbrev pub MayReadMembers : {T : Type 0} → ℕ → Members → List Token → List Token → (Members → T → Type 0)
    → Result T FileFault → Type 0
MayReadMembers depth found old new Is (Ok x) = (ms : Members) × MembersAre depth old found (Some (ms, new)) × Is ms x
MayReadMembers depth found old new Is (Err f) = (f ≡ NoMemory) ⊎ ((f ≡ NotJson) × MembersAre depth old found None)
