-- What the order of the rows of a log does not change.
use Rattle.std.specs.Prelude.{◌≡◌, ℕ, ◌==◌, List, [], map, None}
use Rattle.std.specs.List.{filter}
use Rattle.chip_graph.specs.Limits.{SizeLimits}
use Rattle.chip_log.specs.Log.{steps_of}
use Rattle.chip_file.specs.Numbers.{number_in}
use Rattle.chip_file.specs.Rows.{Row, first_row_fault}
use Rattle.chip_file.specs.LogText.{log_row_in, log_row_fault}

-- two files have the same rows of each process, in the same order
abbrev pub AreMixed : List Row → List Row → Type 0
AreMixed rows others = (p : ℕ) → filter (λ row. number_in 0 row == p) rows ≡ filter (λ row. number_in 0 row == p) others

-- how the rows of processes are mixed changes neither whether a row has a fault nor what each process did
abbrev pub MixedLogs : Type 0
MixedLogs = (limits : SizeLimits) (rows others : List Row) → AreMixed rows others
    → first_row_fault (log_row_fault limits) [] rows ≡ None
    → (first_row_fault (log_row_fault limits) [] others ≡ None)
    × ((p : ℕ) → steps_of p (map log_row_in others) ≡ steps_of p (map log_row_in rows))
