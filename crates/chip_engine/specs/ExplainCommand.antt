-- From a number to what a table of faults or of rules says of it.
use Rattle.std.specs.Prelude.{◌≡◌, ◌==◌, ℕ, List, ◌++◌, codes, find, Option, Some, None, option_map, map, flat_map}
use Rattle.std.specs.Prelude.{MatchOption, Result}
use Rattle.std.specs.Borrow.{Bor}
use Rattle.std.specs.Fmt.{decimal}
use Rattle.chip_command.specs.declared.table.Explanation.{Explanation}
use Rattle.chip_command.specs.CommandAnswers.{Spec, CommandAnswers}
use Rattle.chip_command.specs.declared.ended.Ended.{Ended}
use Rattle.chip_command.specs.declared.fault.Fault.{Fault}
use Rattle.chip_command.specs.declared.fault.Fault.TheVariants.{NoMemory, Usage}

-- a fault or a rule and what it means, on one line
abbrev pub line_text : List ℕ → Explanation → List ℕ
line_text what row =
    what ++ codes " " ++ decimal row.number ++ codes " " ++ row.name.now ++ row.place.letters.now ++ codes ": "
    ++ row.meaning.now ++ codes "\n"

-- all that is said of one: its line, an empty line, how to read its numbers, and what to do
abbrev pub row_text : List ℕ → Explanation → List ℕ
row_text what row = line_text what row ++ codes "\n" ++ row.place.reading.now ++ row.advice.now

-- a line for each row of a table, and the command that says more
abbrev pub table_text : List ℕ → List Explanation → List ℕ
table_text what table =
    flat_map (line_text what) table
    ++ codes "\n`chipfire explain N` says more of fault N, and `chipfire explain rule N` of rule N.\n"

-- the rows that a table refers to
abbrev pub table_rows : List (Bor Explanation) → List Explanation
table_rows table = map (λ row. row.now) table

-- the row of a table with this number, if there is one
abbrev pub row_with : List Explanation → ℕ → Option Explanation
row_with table number = find (λ row. row.number == number) table

-- what a table says: of the row with a number, if there is one; of all rows if no number is given
abbrev pub explanation : List ℕ → List Explanation → Option ℕ → Option (List ℕ)
explanation what table (Some number) = option_map (row_text what) (row_with table number)
explanation what table None = Some (table_text what table)

-- the results of explaining: what the table says, with status 0; or it says nothing, or there is no memory
abbrev pub telling : Option (List ℕ) → Spec (List ℕ × ℕ)
telling said = record {
  gives = λ (text, status). (said ≡ Some text) × (status ≡ 0);
  refuses = λ fault. MatchOption said (fault ≡ Usage) (λ text. fault ≡ NoMemory);
}

-- the results of `explain`
abbrev pub ExplainAnswers : Option (List ℕ) → Option (List ℕ) → Option (List ℕ) → Result Ended Fault → Type 0
ExplainAnswers said old new result = CommandAnswers (telling said) old new result
