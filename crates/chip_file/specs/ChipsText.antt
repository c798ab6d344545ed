-- The chips that a text of rows means, and what is wrong with a text that means none.
use Rattle.std.specs.Prelude.{◌≡◌, ℕ, suc, ◌^◌, ◌≤◌, nat_le, if◌then◌else◌, List, [], ◌∷◌, ◌++◌, codes, length, sum}
use Rattle.std.specs.Prelude.{Option, None, Some, is_none}
use Rattle.std.specs.Fmt.{decimal}
use Rattle.chip_graph.specs.Limits.{max_total}
use Rattle.chip_graph.specs.Faults.{first_of_faults, fault_unless}
use Rattle.chip_file.specs.declared.fault.FileFault.{FileFault}
use Rattle.chip_file.specs.declared.fault.FileFault.TheVariants as fault
use Rattle.chip_file.specs.Rows.{Row, records_of, rows_under_header}
use Rattle.chip_file.specs.VertexRows.{numbers_of_rows, numbers_text_fault}

-- the header of a file of chips
abbrev pub chips_header : Row
chips_header = codes "vertex" ∷ codes "chips" ∷ []

-- the chips of each vertex by the rows of a text, whether or not something is wrong with it
abbrev pub chips_of_rows : ℕ → List ℕ → List ℕ
chips_of_rows vertices text = numbers_of_rows vertices (rows_under_header (records_of text))

-- the first thing wrong with a text of chips
abbrev pub chips_text_fault : ℕ → List ℕ → Option FileFault
chips_text_fault vertices text =
    first_of_faults (numbers_text_fault chips_header vertices text)
    (fault_unless (nat_le (sum (chips_of_rows vertices text)) max_total) fault.Total)

-- the chips that a text means: none if something is wrong with it
abbrev pub chips_of_text : ℕ → List ℕ → Option (List ℕ)
chips_of_text vertices text =
    if is_none (chips_text_fault vertices text) then Some (chips_of_rows vertices text) else None

-- the line of a vertex with this number of chips
abbrev pub chips_line : ℕ → ℕ → List ℕ
chips_line vertex count = decimal vertex ++ codes "," ++ decimal count ++ codes "\n"

-- the lines of the vertices from v on, by the chips of each
abbrev pub chips_lines : ℕ → List ℕ → List ℕ
chips_lines v [] = []
chips_lines v (count ∷ chips) = chips_line v count ++ chips_lines (suc v) chips

-- chips as they are written: a row for each vertex, those ascending
abbrev pub text_of_chips : List ℕ → List ℕ
text_of_chips chips = codes "vertex,chips\n" ++ chips_lines 0 chips

-- what is written of chips means these chips
abbrev pub WrittenChips : Type 0
WrittenChips = (chips : List ℕ) → length chips ≤ 2 ^ 64 → sum chips ≤ max_total
    → chips_of_text (length chips) (text_of_chips chips) ≡ Some chips
