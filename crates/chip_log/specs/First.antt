-- The first early claim of a log, and the first process without a row.
use Rattle.std.specs.Prelude.{◌≡◌, ◌⊎◌, ℕ, ◌<◌, Bool, true, List, [], length, Option, Some, None}
use Rattle.chip_log.specs.declared.row.LogRow.{LogRow}
use Rattle.chip_log.specs.declared.judged.ClaimVerdict.{ClaimVerdict}
use Rattle.chip_log.specs.Log.{steps_of}
use Rattle.chip_log.specs.Claims.{IsRight}
use Rattle.chip_log.specs.Judged.{is_claim, is_early, IsJudged, RowPlace, claim_place}

-- ---- the first early claim

-- one row comes before another, by process, and by row in a process
abbrev pub IsSooner : RowPlace → RowPlace → Type 0
IsSooner x y = (x.process < y.process) ⊎ ((x.process ≡ y.process) × (x.row < y.row))

-- this claim is early, and each one before it is right
pub record IsFirst (with_past : Bool) (log : List LogRow) (c : ClaimVerdict) : Type 0 where
  pub claim : is_claim log c.process c.row ≡ true
  pub judged : IsJudged with_past log c
  pub early : is_early c.verdict ≡ true
  pub before : (p i : ℕ) → is_claim log p i ≡ true → IsSooner (record { process = p; row = i }) (claim_place c) → IsRight log p i

-- the first early claim, or each claim is right
abbrev pub IsFirstEarly : Bool → List LogRow → Option ClaimVerdict → Type 0
IsFirstEarly with_past log (Some c) = IsFirst with_past log c
IsFirstEarly with_past log None = (p i : ℕ) → is_claim log p i ≡ true → IsRight log p i

-- ---- the first process without a row

-- the least process below n without a row, or each has one
abbrev pub IsFirstAbsent : List LogRow → ℕ → Option ℕ → Type 0
IsFirstAbsent log n (Some p) = (p < n) × (steps_of p log ≡ []) × ((q : ℕ) → q < p → 0 < length (steps_of q log))
IsFirstAbsent log n None = (q : ℕ) → q < n → 0 < length (steps_of q log)
