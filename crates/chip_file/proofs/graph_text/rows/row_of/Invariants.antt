use Rattle.chip_file.proofs.JsonNames.{◌≡◌, length, Items, and_items}
use Rattle.chip_file.specs.declared.graph_text.rows.Row.TheVariants as row
use Rattle.chip_file.proofs.Turns.{AreBefore}
use Rattle.chip_file.proofs.graph_text.rows.row_of.Given as goal

abbrev pub invariant-numbers : goal.invariant-numbers
invariant-numbers l =
    (before : Items → Items)
    × AreBefore l.depth l.initial.reader l.reader before
    × ((rest : Items) → and_items row.Empty (before rest) ≡ and_items l.row rest)

abbrev pub decreases-numbers : goal.decreases-numbers
decreases-numbers l = length l.reader
