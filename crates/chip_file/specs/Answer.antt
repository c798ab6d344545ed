-- The results of reading a file, whatever it holds.
use Rattle.std.specs.Prelude.{◌≡◌, ◌⊎◌, ℕ, ◌+◌, ◌^◌, ◌<◌, ◌≤◌, List, length, Option, Result, Ok, Err}
use Rattle.std.specs.Prelude.{IfOk, IfErr, IfSome, OnOk}
use Rattle.std.specs.Global.{Vec}
use Rattle.std.specs.Io.KnownBytes.{Consumes, IsAtEnd}
use Rattle.chip_graph.specs.Limits.{SizeLimits}
use Rattle.chip_file.specs.declared.fault.FileFault.{FileFault}
use Rattle.chip_file.specs.declared.fault.FileFault.TheVariants as fault

-- the most bytes that a read asks for
abbrev pub max_chunk : ℕ
max_chunk = 2 ^ 14

-- the machine failed, and not the text: a read failed, or memory ran out
abbrev pub IsOfMachine : FileFault → Type 0
IsOfMachine f = (f ≡ fault.Read) ⊎ (f ≡ fault.NoMemory)

-- the results of reading a text: a value that it means, or its fault; memory may run out at any text
abbrev pub Gives : {T : Type 0} → (T → Type 0) → (FileFault → Type 0) → Result T FileFault → Type 0
Gives IsMeant IsFault (Ok value) = IsMeant value
Gives IsMeant IsFault (Err f) = (f ≡ fault.NoMemory) ⊎ IsFault f

-- the results of reading an input: a value that it means or its fault, if it is short enough, else `TooLong`; the
-- machine may fail at any input
abbrev pub AnswersInput : {T : Type 0} → SizeLimits → List ℕ → (T → Type 0) → (FileFault → Type 0) → Result T FileFault
    → Type 0
AnswersInput limits input IsMeant IsFault (Ok value) = (length input ≤ limits.bytes) × IsMeant value
AnswersInput limits input IsMeant IsFault (Err f) =
    IsOfMachine f
    ⊎ ((limits.bytes < length input) × (f ≡ fault.TooLong))
    ⊎ ((length input ≤ limits.bytes) × IsFault f)

-- of bytes that were known to be left, at most `most` were taken
abbrev pub TakesAtMost : ℕ → Option (List ℕ) → Option (List ℕ) → Type 0
TakesAtMost most old new = (bytes : List ℕ) × Consumes old new bytes × (length bytes ≤ most)

-- if a read failed, no more bytes were taken than an input may have
abbrev pub FailsInTime : {T : Type 0} → SizeLimits → Option (List ℕ) → Option (List ℕ) → Result T FileFault → Type 0
FailsInTime limits old new result = IfErr result (λ f. f ≡ fault.Read → TakesAtMost limits.bytes old new)

-- the results of reading an input, by what its text means and by the faults of a text, and how much of it is read
pub record ReadsText {T : Type 0} (limits : SizeLimits) (IsMeant : List ℕ → T → Type 0)
    (IsFault : List ℕ → FileFault → Type 0) (old new : Option (List ℕ)) (result : Result T FileFault) : Type 0 where
  pub means : IfSome old (λ text. AnswersInput limits text (IsMeant text) (IsFault text) result)
  pub read : FailsInTime limits old new result
  pub taken : TakesAtMost (limits.bytes + max_chunk) old new

-- the results of reading the bytes of an input, and how much of it is read; memory runs out only for bytes that came
pub record ReadsWhole (limits : SizeLimits) (old new : Option (List ℕ)) (result : Result (Vec ℕ) FileFault) : Type 0 where
  pub known : IfSome old (λ input. AnswersInput limits input (λ bytes. bytes.items ≡ input) (λ _. ⊥) result)
  pub end : OnOk result (IsAtEnd new)
  pub read : FailsInTime limits old new result
  pub taken : TakesAtMost (limits.bytes + max_chunk) old new
  pub memory : IfSome old (λ input. IfErr result (λ f. f ≡ fault.NoMemory → 0 < length input))
  pub few : IfOk result (λ bytes. length bytes.items ≤ limits.bytes)
  pub faults : IfErr result (λ f. IsOfMachine f ⊎ (f ≡ fault.TooLong))
