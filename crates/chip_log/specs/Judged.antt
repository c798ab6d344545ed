-- The verdicts on all claims of a log, and its end.
use Rattle.std.specs.Prelude.{◌≡◌, ℕ, zero, suc, ◌<◌, ◌≤◌, ◌==◌, ◌&&◌, Bool, true, false, if◌then◌else◌}
use Rattle.std.specs.Prelude.{List, [], ◌∷◌, length, map, All, AllPairs, count_by, sum_by}
use Rattle.chip_log.specs.declared.row.LogRow.{LogRow}
use Rattle.chip_log.specs.declared.row.Stream.{Stream}
use Rattle.chip_log.specs.declared.row.Step.{Step}
use Rattle.chip_log.specs.declared.row.Step.TheVariants.{Over}
use Rattle.chip_log.specs.declared.verdict.Verdict.{Verdict}
use Rattle.chip_log.specs.declared.verdict.Verdict.TheVariants as verdict
use Rattle.chip_log.specs.declared.judged.PastRows.{PastRows}
use Rattle.chip_log.specs.declared.judged.ClaimVerdict.{ClaimVerdict}
use Rattle.chip_log.specs.declared.judged.LogEnd.{LogEnd}
use Rattle.chip_log.specs.declared.judged.LogEnd.TheVariants as end
use Rattle.chip_log.specs.declared.judged.JudgedLog.{JudgedLog}
use Rattle.chip_log.specs.Log.{steps_of, outs, ins, IsInterleaving}
use Rattle.chip_log.specs.Claims.{IsPast, IsQuiescentAfter, IsInTransit, IsBusy, IsRight, IsVerdict}

-- ---- claims

abbrev pub is_over : Step → Bool
is_over Over = true
is_over _ = false

-- whether step i is a claim
abbrev pub is_over_at : List Step → ℕ → Bool
is_over_at [] i = false
is_over_at (step ∷ steps) zero = is_over step
is_over_at (step ∷ steps) (suc i) = is_over_at steps i

-- whether step i of p is one
abbrev pub is_claim : List LogRow → ℕ → ℕ → Bool
is_claim log p i = is_over_at (steps_of p log) i

-- a row of a process, by its place among the process's rows
pub record RowPlace : Type 0 where
  pub process : ℕ
  pub row : ℕ

abbrev pub is_at : ℕ → ℕ → RowPlace → Bool
is_at p i x = x.process == p && x.row == i

-- by process, and by row in a process
pub record IsNoLater (x y : RowPlace) : Type 0 where
  pub process : x.process ≤ y.process
  pub row : x.process ≡ y.process → x.row ≤ y.row

-- each claim of a log once, and nothing else, in order
pub record AreClaims (log : List LogRow) (places : List RowPlace) : Type 0 where
  pub once : (p i : ℕ) → count_by (is_at p i) places ≡ (if is_claim log p i then 1 else 0)
  pub sorted : AllPairs IsNoLater places

-- ---- the rows of a causal past

-- how many rows q has by a list
abbrev pub rows_for : ℕ → List PastRows → ℕ
rows_for q past = sum_by (λ x. if x.process == q then x.rows else 0) past

-- how many rows each process has, by process, without those that have none
pub record AreRowsOf (before : List LogRow) (past : List PastRows) : Type 0 where
  pub each : (q : ℕ) → rows_for q past ≡ length (steps_of q before)
  pub some : All (λ x. 0 < x.rows) past
  pub sorted : AllPairs (λ x y. x.process < y.process) past

abbrev pub is_early : Verdict → Bool
is_early verdict.Right = false
is_early _ = true

-- the rows of the causal past of step i of p, or none if they are not shown
abbrev pub AreShown : Bool → List LogRow → ℕ → ℕ → List PastRows → Type 0
AreShown true log p i past = (before : List LogRow) × IsPast log p i before × AreRowsOf before past
AreShown false log p i past = past ≡ []

-- the verdict on a claim, and the rows of the causal past of an early one, if asked for
pub record IsJudged (with_past : Bool) (log : List LogRow) (c : ClaimVerdict) : Type 0 where
  pub verdict : IsVerdict log c.process c.row c.verdict
  pub past : AreShown (with_past && is_early c.verdict) log c.process c.row c.past.items

-- ---- the end

abbrev pub control : ℕ → Stream
control c = record { channel = c; is_control = true }

abbrev pub NoneRight : List LogRow → Type 0
NoneRight log = (p i : ℕ) → is_claim log p i ≡ true → IsRight log p i → ⊥

-- after all rows the log is quiescent and each control message is got, or one is not; or a message is in transit, or
-- else a process is active
abbrev pub IsOpenEnd : List LogRow → LogEnd → Type 0
IsOpenEnd log end.Claimed = ⊥
IsOpenEnd log end.Missed = IsQuiescentAfter log log × ((c : ℕ) → outs (control c) log ≡ ins (control c) log)
IsOpenEnd log end.Unclaimed = IsQuiescentAfter log log × ((c : ℕ) × (ins (control c) log < outs (control c) log))
IsOpenEnd log (end.OnItsWay c k) = IsInTransit log c k
IsOpenEnd log (end.Active q) = IsBusy log log q

-- a claim is right, or none is
abbrev pub IsEnd : List LogRow → LogEnd → Type 0
IsEnd log end.Claimed = (p : ℕ) × (i : ℕ) × (is_claim log p i ≡ true) × IsRight log p i
IsEnd log other = NoneRight log × IsOpenEnd log other

-- ---- all

abbrev pub claim_place : ClaimVerdict → RowPlace
claim_place c = record { process = c.process; row = c.row }

-- the judgment of a claim
abbrev pub told_of : ClaimVerdict → RowPlace × Verdict × List PastRows
told_of c = (claim_place c, c.verdict, c.past.items)

-- all claims, each judged
pub record AreJudged (with_past : Bool) (log : List LogRow) (claims : List ClaimVerdict) : Type 0 where
  pub all : AreClaims log (map claim_place claims)
  pub each : All (IsJudged with_past log) claims

-- and the end, of a log that has an interleaving
pub record IsJudgedLog (with_past : Bool) (log : List LogRow) (judged : JudgedLog) : Type 0 where
  pub ordered : (xs : List LogRow) × IsInterleaving log xs
  pub claims : AreJudged with_past log judged.claims.items
  pub end : IsEnd log judged.end
