-- What a writer has after a write.
use Rattle.std.specs.Prelude.{ℕ, ◌<◌, List, length, take, Option, Result, Ok, Err}
use Rattle.std.specs.Io.KnownBytes.{Appends}
use Rattle.chip_report.specs.declared.write.WriteFault.{WriteFault}

-- all the bytes were written and nothing else, or only the first `fault.written` of them, and not all
abbrev pub WritesAll : Option (List ℕ) → Option (List ℕ) → List ℕ → Result (Unit {0}) WriteFault → Type 0
WritesAll old new bytes (Ok done) = Appends old new bytes
WritesAll old new bytes (Err fault) = (fault.written < length bytes) × Appends old new (take fault.written bytes)
