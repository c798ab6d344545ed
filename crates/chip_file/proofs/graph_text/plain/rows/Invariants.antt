use Rattle.chip_file.proofs.JsonNames.{◌≡◌, ◌≤◌, ◌-◌, length, true, Place, may_begin, fresh, punctuate, Items, lexemes_at}
use Rattle.chip_file.proofs.JsonNames.{rows_depth}
use Rattle.chip_file.proofs.Turns.{AreBefore}
use Rattle.chip_file.proofs.Rowed.{RowsBefore}
use Rattle.chip_file.proofs.graph_text.plain.rows.Given as goal

abbrev pub invariant-rows : goal.invariant-rows
invariant-rows l =
    (before : Items → Items)
    × (place : Place)
    × (may_begin place ≡ true)
    × AreBefore rows_depth (punctuate fresh (lexemes_at l.text l.from)) (punctuate place (lexemes_at l.text l.at)) before
    × (l.from ≤ l.at)
    × (l.at ≤ length l.text)
    × RowsBefore l.most true before l.edges.items

abbrev pub decreases-rows : goal.decreases-rows
decreases-rows l = length l.text - l.at
