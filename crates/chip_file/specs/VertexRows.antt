-- Rows that give vertices numbers: what they mean, and what is wrong with them.
use Rattle.std.specs.Prelude.{◌≡◌, ℕ, ◌<◌, ◌==◌, nat_lt, ◌&&◌, not, if◌then◌else◌, List, [], ◌∷◌, length, map}
use Rattle.std.specs.Prelude.{slice_index_or, Option, None, Some, is_some, is_none, unwrap_or}
use Rattle.std.specs.List.{range_with_len}
use Rattle.chip_graph.specs.Faults.{first_of_faults, fault_unless}
use Rattle.chip_file.specs.declared.fault.FileFault.{FileFault}
use Rattle.chip_file.specs.declared.fault.FileFault.TheVariants as fault
use Rattle.chip_file.specs.Numbers.{number_at, number_in}
use Rattle.chip_file.specs.Rows.{Row, RowFault, records_of, rows_under_header, records_fault}

-- the vertex that a row names
abbrev pub vertex_in : Row → ℕ
vertex_in = number_in 0

-- the number that a row gives its vertex
abbrev pub given_in : Row → ℕ
given_in = number_in 1

-- the first thing wrong with the row at an index, whatever vertices other rows name
abbrev pub vertex_row_fault : ℕ → ℕ → Row → Option FileFault
vertex_row_fault vertices index row =
    first_of_faults (fault_unless (length row == 2) (fault.Row index))
    (first_of_faults (fault_unless (is_some (number_at 0 row) && is_some (number_at 1 row)) (fault.Number index))
    (fault_unless (nat_lt (vertex_in row) vertices) (fault.Vertex index)))

-- the number that rows give a vertex, if one of them names it
abbrev pub number_named : List Row → ℕ → Option ℕ
number_named [] vertex = None
number_named (row ∷ rows) vertex = if vertex_in row == vertex then Some (given_in row) else number_named rows vertex

-- the first thing wrong with a row after those before it, of which none may name its vertex
abbrev pub new_row_fault : ℕ → RowFault
new_row_fault vertices before row =
    first_of_faults (vertex_row_fault vertices (length before) row)
    (fault_unless (not (is_some (number_named before (vertex_in row)))) (fault.Repeated (length before)))

-- the number of each vertex by the rows; one that no row names has 0
abbrev pub numbers_of_rows : ℕ → List Row → List ℕ
numbers_of_rows vertices rows = map (λ v. unwrap_or (number_named rows v) 0) (range_with_len 0 vertices)

-- the first thing wrong with a text of numbers under this header
abbrev pub numbers_text_fault : Row → ℕ → List ℕ → Option FileFault
numbers_text_fault header vertices text = records_fault header (new_row_fault vertices) (records_of text)

-- the numbers of the vertices that a text means: none if something is wrong with it
abbrev pub numbers_of_text : Row → ℕ → List ℕ → Option (List ℕ)
numbers_of_text header vertices text =
    if is_none (numbers_text_fault header vertices text)
    then Some (numbers_of_rows vertices (rows_under_header (records_of text)))
    else None

-- a list has for each of `vertices` vertices what the vertex has
pub record IsByVertex {T : Type 0} (vertices : ℕ) (of : ℕ → T) (none : T) (xs : List T) : Type 0 where
  pub as_many : length xs ≡ vertices
  pub each : (v : ℕ) → v < vertices → slice_index_or xs v none ≡ of v
