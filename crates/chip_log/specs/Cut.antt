-- Logs that are cut off: the last rows of their processes are missing. The judgment of the rows that are used stays.
use Rattle.std.specs.Prelude.{◌≡◌, ℕ, Bool, true, List, ◌++◌}
use Rattle.chip_log.specs.Log.{steps_of, begins_active, IsInterleaving, HasEnds}
use Rattle.chip_log.specs.Order.{IsMaximal}
use Rattle.chip_log.specs.Judged.{is_claim, IsJudged}
use Rattle.chip_log.specs.declared.row.LogRow.{LogRow}
use Rattle.chip_log.specs.declared.row.Step.{Step}
use Rattle.chip_log.specs.declared.judged.ClaimVerdict.{ClaimVerdict}

-- `cut` has the first rows of each process of a log, and of one that begins active at least the one that says so
pub record IsCut (log cut : List LogRow) : Type 0 where
  pub missing : ℕ → List Step
  pub own : (p : ℕ) → steps_of p cut ++ missing p ≡ steps_of p log
  pub begins : (p : ℕ) → begins_active (steps_of p cut) ≡ begins_active (steps_of p log)

-- the judgment of a claim, by the rows of a cut log that maximal progress uses, is its judgment in each whole log with
-- an interleaving
abbrev pub CutKeepsVerdicts : Type 0
CutKeepsVerdicts = (with_past : Bool) (log cut used xs : List LogRow) (c : ClaimVerdict) → HasEnds log → IsCut log cut
    → IsMaximal cut used → IsInterleaving log xs → is_claim used c.process c.row ≡ true → IsJudged with_past used c
    → IsJudged with_past log c
