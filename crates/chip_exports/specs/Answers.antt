-- What a call returns to C.
use Rattle.std.specs.Prelude.{◌≡◌, ℕ, Result, Ok, Err}
use Rattle.chip_library.specs.declared.fault.CallFault.{CallFault}
use Rattle.chip_library.specs.CallFaults.{call_fault_number, place_of}

-- the number of a fault and its place, or 0 and 0
abbrev pub answer_of : Result (Unit {0}) CallFault → ℕ × ℕ
answer_of (Ok done) = (0, 0)
answer_of (Err fault) = (call_fault_number fault, place_of fault)

-- the status and the place are those of a result for which the promise holds
abbrev pub Answers : (status place : ℕ) → (Result (Unit {0}) CallFault → Type 0) → Type 0
Answers status place promise = (done : Result (Unit {0}) CallFault) × promise done × ((status, place) ≡ answer_of done)
