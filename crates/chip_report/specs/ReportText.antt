-- The report of an outcome: one line of compact JSON, its members in alphabetical order.
use Rattle.std.specs.Prelude.{ℕ, zero, suc, Bool, true, false, ◌&&◌, List, [], ◌∷◌, ◌++◌, map, codes}
use Rattle.std.specs.List.{join_with_byte}
use Rattle.std.specs.Fmt.{decimal}
use Rattle.chip_sequence.specs.declared.outcome.Outcome.{Outcome}

-- the code of a comma
abbrev pub comma : ℕ
comma = 44

-- numbers as a JSON array
abbrev pub array_text : List ℕ → List ℕ
array_text numbers = codes "[" ++ join_with_byte comma (map decimal numbers) ++ codes "]"

-- a number as the member of an array after this number of others
abbrev pub member_text : ℕ → ℕ → List ℕ
member_text zero number = decimal number
member_text (suc before) number = comma ∷ decimal number

-- a truth value in JSON
abbrev pub bool_text : Bool → List ℕ
bool_text true = codes "true"
bool_text false = codes "false"

-- whether a list has no member
abbrev pub is_empty : List ℕ → Bool
is_empty [] = true
is_empty (x ∷ xs) = false

-- whether no vertex halted
abbrev pub is_closed : Outcome → Bool
is_closed outcome = is_empty outcome.over.items && is_empty outcome.sealed.items

-- the report of an outcome
abbrev pub report_text : Outcome → List ℕ
report_text outcome =
    codes "{\"chips\":" ++ array_text outcome.chips.items
    ++ codes ",\"closed\":" ++ bool_text (is_closed outcome)
    ++ codes ",\"fired\":" ++ array_text outcome.fired.items
    ++ codes ",\"over\":" ++ array_text outcome.over.items
    ++ codes ",\"sealed\":" ++ array_text outcome.sealed.items
    ++ codes ",\"version\":1}\n"

-- the start of the reports of both versions: an outcome up to the vertices that are over
abbrev pub start_text : Outcome → List ℕ
start_text outcome =
    codes "{\"chips\":" ++ array_text outcome.chips.items
    ++ codes ",\"closed\":" ++ bool_text (is_closed outcome)
    ++ codes ",\"fired\":" ++ array_text outcome.fired.items
    ++ codes ",\"over\":" ++ array_text outcome.over.items
