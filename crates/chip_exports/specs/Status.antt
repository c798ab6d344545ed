-- What a call on the books of a process returns to C.
use Rattle.std.specs.Prelude.{◌≡◌, ℕ, Bool, true, false, not, ◌==◌, Result, Ok, Err}
use Rattle.chip_library.specs.declared.detector.BooksFault.{BooksFault}
use Rattle.chip_library.specs.declared.sums.Acknowledged.{Acknowledged}
use Rattle.chip_library.specs.PartBooks.{books_fault_number}

-- whether a word is true
abbrev pub is_true : ℕ → Bool
is_true word = not (word == 0)

-- the number of a fault, or 0
abbrev pub status_of : {T : Type 0} → Result T BooksFault → ℕ
status_of (Ok told) = 0
status_of (Err fault) = books_fault_number fault

-- the status is that of a result for which the promise holds
abbrev pub Status : {T : Type 0} → ℕ → (Result T BooksFault → Type 0) → Type 0
Status {T} status promise = (done : Result T BooksFault) × promise done × (status ≡ status_of done)

-- what is written, if `old` was written before
abbrev pub count_of : Result ℕ BooksFault → ℕ → ℕ
count_of (Ok count) old = count
count_of (Err fault) old = old

abbrev pub flag_of : Result Bool BooksFault → ℕ → ℕ
flag_of (Ok true) old = 1
flag_of (Ok false) old = 0
flag_of (Err fault) old = old

-- what is written of an acknowledgement
abbrev pub acknowledged_of : Result Acknowledged BooksFault → ℕ × ℕ → ℕ × ℕ
acknowledged_of (Ok now) old = (now.count, now.so_far)
acknowledged_of (Err fault) old = old
