-- What a call on a pile returns to C.
use Rattle.std.specs.Prelude.{◌≡◌, ℕ, Bool, true, false, Result, Ok, Err}
use Rattle.chip_fire.specs.declared.avalanche.Avalanche.{Avalanche}
use Rattle.chip_library.specs.declared.fault.CallFault.{CallFault}
use Rattle.chip_library.specs.CallFaults.{call_fault_number, place_of}

-- the number of a fault, or 0
abbrev pub call_status_of : {T : Type 0} → Result T CallFault → ℕ
call_status_of (Ok told) = 0
call_status_of (Err fault) = call_fault_number fault

-- the status is that of a result for which the promise holds
abbrev pub CallStatus : {T : Type 0} → ℕ → (Result T CallFault → Type 0) → Type 0
CallStatus {T} status promise = (told : Result T CallFault) × promise told × (status ≡ call_status_of told)

-- what is written of whether a play still has to end, if `old` was written before
abbrev pub left_of : Result Bool CallFault → ℕ → ℕ
left_of (Ok true) old = 1
left_of (Ok false) old = 0
left_of (Err fault) old = old

-- the size, the area and the dissipated chips that are written, if `old` were written before
abbrev pub written_of : Result Avalanche CallFault → ℕ × ℕ × ℕ → ℕ × ℕ × ℕ
written_of (Ok a) old = (a.size, a.extent, a.lost)
written_of (Err fault) old = old

-- the number of a fault and its place, or 0 and the number of drops made
abbrev pub made_of : Result ℕ CallFault → ℕ × ℕ
made_of (Ok made) = (0, made)
made_of (Err fault) = (call_fault_number fault, place_of fault)

-- the status and the place are those of a result for which the promise holds
abbrev pub TellsMade : (status place : ℕ) → (Result ℕ CallFault → Type 0) → Type 0
TellsMade status place promise = (told : Result ℕ CallFault) × promise told × ((status, place) ≡ made_of told)
