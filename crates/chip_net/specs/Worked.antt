-- The small triangle as a net, as the definitions compute it: four edges, and the root edges 4 to 6.
use Rattle.std.specs.Prelude.{◌≡◌, true, false, [], ◌∷◌, take, Some, None}
use Rattle.chip_link.specs.declared.trace.TraceRow.TheVariants as Row
use Rattle.chip_part.specs.Setting.{Setting}
use Rattle.chip_part.specs.Worked.{small_triangle}
use Rattle.chip_part.specs.Steps.{saw}
use Rattle.chip_core.specs.Core.{Take, Ack, Fire, Clear, Put, Settle, Read, Feed}
use Rattle.chip_core.specs.Positions.{fed_in}
use Rattle.chip_core.specs.Words.{of_edge, of_acks, of_cell, of_vertex}
use Rattle.chip_net.specs.Layout.{index_of, word_count}
use Rattle.chip_net.specs.Views.{View, find, grow_view, view_without, view_of_one, join_views}
use Rattle.chip_net.specs.Opening.{first_value}
use Rattle.chip_net.specs.Traces.{trace_rows_of}
use Rattle.chip_net.specs.Roots.{settles_from, feed_steps}
use Rattle.chip_net.specs.Finish.{reads_from, no_readings, readings_after}

-- four chips on vertex 0, and rings of two cells
abbrev pub two_cells : Setting
two_cells = record (small_triangle (4 ∷ 0 ∷ 0 ∷ [])) { ring = 2 }

-- seven edge words, seven words of acknowledgements, fourteen cells and three fired words
abbrev pub TriangleWords : Type 0
TriangleWords =
    (index_of two_cells (of_edge 4) ≡ 4) × (index_of two_cells (of_acks 4) ≡ 11)
    × (index_of two_cells (of_cell 4 1) ≡ 23)
    × (index_of two_cells (of_vertex 2) ≡ 30) × (word_count two_cells ≡ 31)

-- the chips of vertex 0 are in the first cell of its root edge
abbrev pub TriangleOpens : Type 0
TriangleOpens =
    (first_value two_cells 7 (of_edge 4) ≡ 1) × (first_value two_cells 7 (of_cell 4 0) ≡ 4)
    × (first_value two_cells 7 (of_cell 4 1) ≡ 0)
    × (first_value two_cells 7 (of_edge 5) ≡ 0) × (first_value two_cells 7 (of_vertex 0) ≡ 0)

-- a view of two parts: one of them acts, is taken out, and returns
abbrev pub two_parts : View
two_parts = record { parts = record { part = 1; did = [] } ∷ record { part = 0; did = saw (Take 4) 4 ∷ [] } ∷ [] }

abbrev pub PartTakenOut : Type 0
PartTakenOut =
    (find 0 (grow_view 0 (saw (Fire 0 2) 0) two_parts).parts ≡ Some (saw (Take 4) 4 ∷ saw (Fire 0 2) 0 ∷ []))
    × (find 1 (grow_view 0 (saw (Fire 0 2) 0) two_parts).parts ≡ Some [])
    × (find 0 (view_without 0 two_parts).parts ≡ None) × (find 1 (view_without 0 two_parts).parts ≡ Some [])
    × (find 0 (view_of_one 0 two_parts).parts ≡ Some (saw (Take 4) 4 ∷ []))
    × (find 1 (view_of_one 0 two_parts).parts ≡ None)
    × (find 0 (join_views (view_without 0 two_parts) (view_of_one 0 two_parts)).parts ≡ Some (saw (Take 4) 4 ∷ []))
    × (find 1 (join_views (view_without 0 two_parts) (view_of_one 0 two_parts)).parts ≡ Some [])

-- an empty cell and an acknowledgement make no row
abbrev pub RowsOfATurn : Type 0
RowsOfATurn =
    (trace_rows_of (saw (Take 2) 0 ∷ saw (Take 4) 4 ∷ saw (Settle 0) 0 ∷ saw (Fire 0 2) 0 ∷ saw (Ack 4) 0 ∷ [])
    ≡ Row.Take 4 4 ∷ Row.Fire 2 ∷ [])
    × (take 1 (trace_rows_of (saw (Take 4) 4 ∷ saw (Fire 0 2) 0 ∷ [])) ≡ Row.Take 4 4 ∷ [])

-- a poll, and the reads of the root: vertex 0 fired twice, vertex 1 once and was halted by its limit, and a seal halted
-- vertex 2
abbrev pub RootOfTheTriangle : Type 0
RootOfTheTriangle =
    (settles_from two_cells 0 3 ≡ Settle 4 ∷ Settle 5 ∷ Settle 6 ∷ [])
    × (reads_from 0 (2 ∷ 1 ∷ []) ≡ saw (Read 0) 2 ∷ saw (Read 1) 1 ∷ [])
    × (readings_after 0 true false (readings_after 1 true true (readings_after 2 false false (no_readings 3)))
    ≡ record { fired = 2 ∷ 1 ∷ 0 ∷ []; over = 1 ∷ []; sealed = 2 ∷ []; room = 0 })

-- three chips for vertex 1, whose root edge is 5: the events, the root's list of feeds, and the settles of an end
abbrev pub FeedOfTheTriangle : Type 0
FeedOfTheTriangle =
    (feed_steps two_cells 1 3 0 ≡ saw (Clear 5) 0 ∷ saw (Feed 5 3) 0 ∷ saw (Put 5) 0 ∷ [])
    × (fed_in two_cells (feed_steps two_cells 1 3 0) ≡ (1, 3) ∷ [])
    × (settles_from two_cells 1 2 ≡ Settle 5 ∷ Settle 6 ∷ [])
