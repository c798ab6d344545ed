-- Kinds in the rows of a file, by their names.
use Rattle.std.specs.Prelude.{ℕ, if◌then◌else◌, List, [], ◌∷◌, map, Option, None, Some, option_and_then, bytes_eq}
use Rattle.std.specs.Borrow.{Bor}
use Rattle.csv.specs.Records.{field_at}

-- the kind that a table has under a name, compared byte for byte
abbrev pub kind_named : {K : Type 0} → List (List ℕ × K) → List ℕ → Option K
kind_named [] name = None
kind_named (kind ∷ kinds) name = if bytes_eq name kind.0 then Some kind.1 else kind_named kinds name

-- a table of kinds, with the text of each name
abbrev pub named_kinds : {K : Type 0} → List (Bor (List ℕ) × K) → List (List ℕ × K)
named_kinds kinds = map (λ kind. (kind.0.now, kind.1)) kinds

-- the kind in the field at a column of a row
abbrev pub kind_at : {K : Type 0} → List (List ℕ × K) → ℕ → List (List ℕ) → Option K
kind_at kinds column row = option_and_then (kind_named kinds) (field_at row column)
