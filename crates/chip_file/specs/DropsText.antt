-- The drops of chips that a text of rows means, and what is wrong with a text that means none.
use Rattle.std.specs.Prelude.{ℕ, if◌then◌else◌, List, map, Option, None, Some, is_none}
use Rattle.chip_file.specs.declared.fault.FileFault.{FileFault}
use Rattle.chip_file.specs.ChipsText.{chips_header}
use Rattle.chip_file.specs.Rows.{Row, records_of, rows_under_header, by_index, records_fault}
use Rattle.chip_file.specs.VertexRows.{vertex_in, given_in, vertex_row_fault}

-- the drop of a row: its vertex, and the number of chips added there
abbrev pub drop_in : Row → ℕ × ℕ
drop_in row = (vertex_in row, given_in row)

-- the first thing wrong with a text of drops; rows may name a vertex any number of times
abbrev pub drops_text_fault : ℕ → List ℕ → Option FileFault
drops_text_fault vertices text = records_fault chips_header (by_index (vertex_row_fault vertices)) (records_of text)

-- the drops that a text means, in order: none if something is wrong with it
abbrev pub drops_of_text : ℕ → List ℕ → Option (List (ℕ × ℕ))
drops_of_text vertices text =
    if is_none (drops_text_fault vertices text) then Some (map drop_in (rows_under_header (records_of text))) else None
