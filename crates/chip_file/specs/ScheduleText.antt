-- The schedule that a text of rows means, and what is wrong with a text that means none.
use Rattle.std.specs.Prelude.{ℕ, Bool, true, ◌==◌, nat_lt, ◌&&◌, if◌then◌else◌, List, [], ◌∷◌, codes, length}
use Rattle.std.specs.Prelude.{map, Option, None, Some, is_some, is_none, unwrap_or}
use Rattle.chip_graph.specs.Multigraph.{Multigraph}
use Rattle.chip_graph.specs.Edges.{edges_and_roots}
use Rattle.chip_graph.specs.Faults.{first_of_faults, fault_unless}
use Rattle.chip_link.specs.declared.event.Event.{Event}
use Rattle.chip_link.specs.declared.event.Event.TheVariants as event
use Rattle.chip_file.specs.declared.schedule.EventKind.{EventKind}
use Rattle.chip_file.specs.declared.schedule.EventKind.TheVariants as kind
use Rattle.chip_file.specs.declared.fault.FileFault.{FileFault}
use Rattle.chip_file.specs.declared.fault.FileFault.TheVariants as fault
use Rattle.chip_file.specs.Kinds.{kind_at}
use Rattle.chip_file.specs.Numbers.{number_at, number_in}
use Rattle.chip_file.specs.Rows.{Row, records_of, rows_under_header, by_index, records_fault}

-- the header of a schedule
abbrev pub schedule_header : Row
schedule_header = codes "event" ∷ codes "at" ∷ codes "count" ∷ []

-- the kinds of events, by their names
abbrev pub event_kinds : List (List ℕ × EventKind)
event_kinds =
    (codes "take", kind.Take) ∷ (codes "ack", kind.Ack) ∷ (codes "fire", kind.Fire) ∷ (codes "clear", kind.Clear)
    ∷ (codes "claim", kind.Claim)
    ∷ (codes "put", kind.Put) ∷ (codes "halt", kind.Halt) ∷ (codes "settle", kind.Settle) ∷ (codes "seal", kind.Seal)
    ∷ (codes "read", kind.Read) ∷ (codes "feed", kind.Feed) ∷ (codes "end", kind.End) ∷ []

-- the kind of a row's event
abbrev pub kind_in : Row → EventKind
kind_in row = unwrap_or (kind_at event_kinds 0 row) kind.Take

-- whether an event of this kind may be at this number: the number of a vertex, or of an edge, the root's among them;
-- for the end of feeding it is not read
abbrev pub may_be_at : Multigraph → EventKind → ℕ → Bool
may_be_at G kind.Fire at = nat_lt at G.vertices
may_be_at G kind.Halt at = nat_lt at G.vertices
may_be_at G kind.Read at = nat_lt at G.vertices
may_be_at G kind.End at = true
may_be_at G _ at = nat_lt at (edges_and_roots G)

-- the event of this kind at a vertex or an edge; only a firing and a feed have a count
abbrev pub event_of_kind : EventKind → ℕ → ℕ → Event
event_of_kind kind.Take at count = event.Take at
event_of_kind kind.Ack at count = event.Ack at
event_of_kind kind.Fire at count = event.Fire at count
event_of_kind kind.Clear at count = event.Clear at
event_of_kind kind.Claim at count = event.Claim at
event_of_kind kind.Put at count = event.Put at
event_of_kind kind.Halt at count = event.Halt at
event_of_kind kind.Settle at count = event.Settle at
event_of_kind kind.Seal at count = event.Seal at
event_of_kind kind.Read at count = event.Read at
event_of_kind kind.Feed at count = event.Feed at count
event_of_kind kind.End at count = event.End

-- the event of a row
abbrev pub event_in : Row → Event
event_in row = event_of_kind (kind_in row) (number_in 1 row) (number_in 2 row)

-- the first thing wrong with the row at an index
abbrev pub event_fault : Multigraph → ℕ → Row → Option FileFault
event_fault G index row =
    first_of_faults (fault_unless (length row == 3) (fault.Row index))
    (first_of_faults (fault_unless (is_some (kind_at event_kinds 0 row)) (fault.Kind index))
    (first_of_faults (fault_unless (is_some (number_at 1 row) && is_some (number_at 2 row)) (fault.Number index))
    (fault_unless (may_be_at G (kind_in row) (number_in 1 row)) (fault.Vertex index))))

-- the first thing wrong with a text of a schedule for a graph
abbrev pub schedule_text_fault : Multigraph → List ℕ → Option FileFault
schedule_text_fault G text = records_fault schedule_header (by_index (event_fault G)) (records_of text)

-- the events that a text means, in order: none if something is wrong with it
abbrev pub schedule_of_text : Multigraph → List ℕ → Option (List Event)
schedule_of_text G text =
    if is_none (schedule_text_fault G text) then Some (map event_in (rows_under_header (records_of text))) else None
