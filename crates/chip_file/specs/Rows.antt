-- Files of rows: a header, and the rows under it.
use Rattle.std.specs.Prelude.{ℕ, Bool, false, List, [], ◌∷◌, ◌++◌, length, Option, None, bytes_eq}
use Rattle.std.specs.Cmp.Lexicographic.{pointwise}
use Rattle.csv.specs.Reading.{records, default_config, strip_bom}
use Rattle.chip_graph.specs.Faults.{first_of_faults, fault_unless}
use Rattle.chip_file.specs.declared.fault.FileFault.{FileFault}
use Rattle.chip_file.specs.declared.fault.FileFault.TheVariants as fault

-- a record: its fields, each a list of bytes
abbrev pub Row : Type 0
Row = List (List ℕ)

-- the records that csv reads in a text: with commas, without trimming, the header among them
abbrev pub records_of : List ℕ → List Row
records_of text = records default_config (strip_bom text)

-- a record has exactly these fields
abbrev pub has_fields : Row → Row → Bool
has_fields fields row = pointwise bytes_eq row fields

-- the first record is this header
abbrev pub has_header : Row → List Row → Bool
has_header header [] = false
has_header header (row ∷ rows) = has_fields header row

-- the rows under the header
abbrev pub rows_under_header : List Row → List Row
rows_under_header [] = []
rows_under_header (row ∷ rows) = rows

-- how the fault of a row follows from the rows before it and from the row
abbrev pub RowFault : Type 0
RowFault = List Row → Row → Option FileFault

-- the first fault of rows, by the fault of a row after those before it, if `before` come before all of them
abbrev pub first_row_fault : RowFault → List Row → List Row → Option FileFault
first_row_fault row_fault before [] = None
first_row_fault row_fault before (row ∷ rows) =
    first_of_faults (row_fault before row) (first_row_fault row_fault (before ++ row ∷ []) rows)

-- the fault of a row that its index decides
abbrev pub by_index : (ℕ → Row → Option FileFault) → RowFault
by_index row_fault before row = row_fault (length before) row

-- the first thing wrong with records that have this header: the header itself, or a row under it
abbrev pub records_fault : Row → RowFault → List Row → Option FileFault
records_fault header row_fault records =
    first_of_faults (fault_unless (has_header header records) fault.Header)
    (first_row_fault row_fault [] (rows_under_header records))
