use Rattle.chip_file.proofs.JsonNames.{length, Items}
use Rattle.chip_file.proofs.Turns.{AreBefore}
use Rattle.chip_file.proofs.Rowed.{RowsBefore}
use Rattle.chip_file.proofs.graph_text.rows.rows.Given as goal

abbrev pub invariant-rows : goal.invariant-rows
invariant-rows l =
    (before : Items → Items)
    × AreBefore l.depth l.initial.reader l.reader before
    × RowsBefore l.most l.are_edges before l.edges.items

abbrev pub decreases-rows : goal.decreases-rows
decreases-rows l = length l.reader
