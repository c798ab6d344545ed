-- The guess that a text of rows means, and what is wrong with a text that means none.
use Rattle.std.specs.Prelude.{ℕ, List, [], ◌∷◌, codes, Option}
use Rattle.chip_file.specs.declared.fault.FileFault.{FileFault}
use Rattle.chip_file.specs.Rows.{Row}
use Rattle.chip_file.specs.VertexRows.{numbers_of_text, numbers_text_fault}

-- the header of a file of a guess
abbrev pub guess_header : Row
guess_header = codes "vertex" ∷ codes "fired" ∷ []

-- the first thing wrong with a text of a guess
abbrev pub guess_text_fault : ℕ → List ℕ → Option FileFault
guess_text_fault = numbers_text_fault guess_header

-- how often each vertex fired by the guess that a text means: none if something is wrong with it
abbrev pub guess_of_text : ℕ → List ℕ → Option (List ℕ)
guess_of_text = numbers_of_text guess_header
