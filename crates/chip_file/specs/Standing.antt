-- The place of a reader of rows in a text, and the results of visiting its rows.
use Rattle.std.specs.Prelude.{◌≡◌, ℕ, ◌+◌, Bool, true, false, List, [], ◌∷◌, length, Option, Some, None, IsSome}
use Rattle.std.specs.Prelude.{unwrap_or, Result}
use Rattle.std.specs.Borrow.{Bor}
use Rattle.csv.specs.Reading.{Ready, default_config, reader_config, reader_state, reader_trim, is_flexible, source_of}
use Rattle.csv.specs.Reading.{records_from}
use Rattle.csv.specs.declared.reader.Reader.{Reader}
use Rattle.csv.specs.declared.reader.Trim.TheVariants as trim
use Rattle.chip_file.specs.declared.fault.FileFault.{FileFault}
use Rattle.chip_file.specs.Answer.{Gives}
use Rattle.chip_file.specs.Rows.{Row, RowFault, records_fault, rows_under_header}

-- csv's reader of a text
abbrev pub RecordReader : Type 0
RecordReader = Reader (Bor (List ℕ))

-- the bytes that it has left, if it has not failed
abbrev pub source : RecordReader → Option (List ℕ)
source reader = source_of (λ s. Some s.now) reader

-- the records that it has left
abbrev pub records_left : RecordReader → List Row
records_left reader = records_from default_config (length (unwrap_or (source reader) []) + 1) (reader_state reader)
    (unwrap_or (source reader) [])

-- it reads as the files of rows are read, and has not failed
pub record IsOpen (reader : RecordReader) : Type 0 where
  pub config : reader_config reader ≡ default_config
  pub trim : reader_trim reader ≡ trim.None
  pub flexible : is_flexible reader ≡ true
  pub ready : Ready reader
  pub source : IsSome (source reader)

-- a read found a row, the first of those that were left, or found that none was left
abbrev pub TakesRow : Bool → Row → List Row → List Row → Type 0
TakesRow true row old new = old ≡ row ∷ new
TakesRow false row old new = old ≡ []

-- all rows under a header were visited, from a first visitor on, or the result is the first fault of the records
abbrev pub VisitsRecords : {V : Type 0} → RowFault → (List Row → V → Type 0) → Row → List Row → V → Result V FileFault
    → Type 0
VisitsRecords row_fault HasVisited header records first result =
    HasVisited [] first → Gives
    (λ visitor. (records_fault header row_fault records ≡ None) × HasVisited (rows_under_header records) visitor)
    (λ f. records_fault header row_fault records ≡ Some f) result
