-- The laws of claims.
use Rattle.std.specs.Prelude.{◌≡◌, ℕ, ◌≤◌, Bool, List, length, map, Option, option_map}
use Rattle.chip_log.specs.Log.{steps_of, IsInterleaving, HasEnds}
use Rattle.chip_log.specs.Order.{IsProgress, IsMaximal, IsStuck}
use Rattle.chip_log.specs.Claims.{IsBefore, IsPast, IsQuiescentAfter, IsVerdict}
use Rattle.chip_log.specs.Judged.{IsJudgedLog, told_of}
use Rattle.chip_log.specs.First.{IsFirstEarly, IsFirstAbsent}
use Rattle.chip_log.specs.declared.row.LogRow.{LogRow}
use Rattle.chip_log.specs.declared.judged.ClaimVerdict.{ClaimVerdict}
use Rattle.chip_log.specs.declared.judged.JudgedLog.{JudgedLog}
use Rattle.chip_log.specs.declared.verdict.Verdict.{Verdict}
use Rattle.chip_log.specs.declared.verdict.Verdict.TheVariants as verdict

-- each claim of an interleaving has a causal past
abbrev pub CausalPast : Type 0
CausalPast = (log : List LogRow) (p i : ℕ) (before : List LogRow) → HasEnds log → IsBefore log p i before
    → (past : List LogRow) × IsPast log p i past

-- a claim is right if the log is quiescent after its causal past
abbrev pub QuiescentPast : Type 0
QuiescentPast = (log : List LogRow) (p i : ℕ) (past : List LogRow) → HasEnds log → IsPast log p i past
    → IsQuiescentAfter log past → IsVerdict log p i verdict.Right

-- no claim has two verdicts
abbrev pub OneVerdict : Type 0
OneVerdict = (log : List LogRow) (p i : ℕ) (v w : Verdict) → HasEnds log → IsVerdict log p i v → IsVerdict log p i w → v ≡ w

-- no progress has more rows of a process than maximal progress
abbrev pub MaximalProgress : Type 0
MaximalProgress = (log used other : List LogRow) → HasEnds log → IsMaximal log used → IsProgress log other
    → (p : ℕ) → length (steps_of p other) ≤ length (steps_of p used)

-- a log that is stuck has no interleaving
abbrev pub StuckOrder : Type 0
StuckOrder = (log xs : List LogRow) (p i : ℕ) → HasEnds log → IsStuck log p i → IsInterleaving log xs → ⊥

-- a log is stuck in one place
abbrev pub OnePlace : Type 0
OnePlace = (log : List LogRow) (p i q j : ℕ) → HasEnds log → IsStuck log p i → IsStuck log q j → (p ≡ q) × (i ≡ j)

-- the judgment does not depend on how the rows of processes are mixed
abbrev pub SameJudgment : Type 0
SameJudgment = (with_past : Bool) (log other : List LogRow) (judged : JudgedLog) → HasEnds log
    → ((p : ℕ) → steps_of p log ≡ steps_of p other) → IsJudgedLog with_past log judged → IsJudgedLog with_past other judged

-- a log has one judgment: of its claims, in one order, and of its end
abbrev pub OneJudgment : Type 0
OneJudgment = (with_past : Bool) (log : List LogRow) (one two : JudgedLog) → HasEnds log
    → IsJudgedLog with_past log one → IsJudgedLog with_past log two
    → (map told_of one.claims.items ≡ map told_of two.claims.items) × (one.end ≡ two.end)

-- the first early claim of a log does not depend on how the rows of processes are mixed
abbrev pub SameFirst : Type 0
SameFirst = (with_past : Bool) (log other : List LogRow) (found : Option ClaimVerdict)
    → ((p : ℕ) → steps_of p log ≡ steps_of p other) → IsFirstEarly with_past log found → IsFirstEarly with_past other found

-- a log has one first early claim, with one judgment
abbrev pub OneFirst : Type 0
OneFirst = (with_past : Bool) (log : List LogRow) (one two : Option ClaimVerdict) → HasEnds log
    → IsFirstEarly with_past log one → IsFirstEarly with_past log two → option_map told_of one ≡ option_map told_of two

-- a log has one first process without a row, however its rows are mixed
abbrev pub OneAbsent : Type 0
OneAbsent = (log other : List LogRow) (n : ℕ) (one two : Option ℕ) → ((p : ℕ) → steps_of p log ≡ steps_of p other)
    → IsFirstAbsent log n one → IsFirstAbsent other n two → one ≡ two

-- the place where a log is stuck does not depend on how its rows are mixed
abbrev pub SameStuck : Type 0
SameStuck = (log other : List LogRow) (p i : ℕ) → ((q : ℕ) → steps_of q log ≡ steps_of q other) → IsStuck log p i → IsStuck other p i
