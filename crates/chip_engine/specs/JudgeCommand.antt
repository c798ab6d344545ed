-- From the bytes of a log to the lines of its claims and its end.
use Rattle.std.specs.Prelude.{◌≡◌, ◌⊎◌, ℕ, List, ◌++◌, codes, flat_map, Bool, true, false, if◌then◌else◌}
use Rattle.std.specs.Prelude.{Option, Some, None, Result}
use Rattle.std.specs.Fmt.{decimal}
use Rattle.std.specs.List.{list_any}
use Rattle.chip_graph.specs.Limits.{SizeLimits}
use Rattle.chip_log.specs.declared.row.LogRow.{LogRow}
use Rattle.chip_log.specs.declared.verdict.Verdict.{Verdict}
use Rattle.chip_log.specs.declared.verdict.Verdict.TheVariants as verdict
use Rattle.chip_log.specs.declared.judged.PastRows.{PastRows}
use Rattle.chip_log.specs.declared.judged.ClaimVerdict.{ClaimVerdict}
use Rattle.chip_log.specs.declared.judged.LogEnd.{LogEnd}
use Rattle.chip_log.specs.declared.judged.LogEnd.TheVariants as end
use Rattle.chip_log.specs.declared.judged.JudgedLog.{JudgedLog}
use Rattle.chip_log.specs.Judged.{is_early, IsJudgedLog}
use Rattle.chip_log.specs.First.{IsFirstEarly, IsFirstAbsent}
use Rattle.chip_log.specs.Order.{IsStuck, IsWellFormed}
use Rattle.chip_log.specs.declared.past.Sizes.{Sizes}
use Rattle.chip_file.specs.LogText.{log_of_text, log_text_fault}
use Rattle.chip_engine.specs.declared.judge.JudgeOptions.{JudgeOptions}
use Rattle.chip_command.specs.CommandAnswers.{Spec, bind, CommandAnswers, OrMemory}
use Rattle.chip_command.specs.Inputs.{reading}
use Rattle.chip_command.specs.Statuses.{number_of_status}
use Rattle.chip_command.specs.declared.ended.Ended.{Ended}
use Rattle.chip_command.specs.declared.fault.Fault.{Fault}
use Rattle.chip_command.specs.declared.fault.Fault.TheVariants.{Absent, Stuck}
use Rattle.chip_command.specs.declared.status.Status.{Status}
use Rattle.chip_command.specs.declared.status.Status.TheVariants.{Done, Halted, Unfinished}

-- what follows the place of a claim in its line
abbrev pub verdict_text : Verdict → List ℕ
verdict_text verdict.Right = codes " right\n"
verdict_text (verdict.OnItsWay channel message) =
    codes " early: message " ++ decimal message ++ codes " of channel " ++ decimal channel ++ codes " is on its way\n"
verdict_text (verdict.Active process) = codes " early: process " ++ decimal process ++ codes " is active\n"

-- the line of the rows of a process in a causal past
abbrev pub past_text : PastRows → List ℕ
past_text past = codes "past " ++ decimal past.process ++ codes " " ++ decimal past.rows ++ codes "\n"

-- the line of a claim, and those of its past
abbrev pub claim_text : ClaimVerdict → List ℕ
claim_text claim = codes "over " ++ decimal claim.process ++ codes " " ++ decimal claim.row
    ++ verdict_text claim.verdict ++ flat_map past_text claim.past.items

-- the line of the end
abbrev pub end_text : LogEnd → List ℕ
end_text end.Claimed = codes "end claimed\n"
end_text end.Missed = codes "end missed\n"
end_text end.Unclaimed = codes "end unclaimed\n"
end_text (end.OnItsWay channel message) =
    codes "end open: message " ++ decimal message ++ codes " of channel " ++ decimal channel ++ codes " is on its way\n"
end_text (end.Active process) = codes "end open: process " ++ decimal process ++ codes " is active\n"

-- the exit status of a log without an early claim
abbrev pub status_of_end : LogEnd → Status
status_of_end end.Claimed = Done
status_of_end _ = Unfinished

-- the exit status of a log: an early claim decides it, and else the end
abbrev pub status_of_judged : JudgedLog → Status
status_of_judged judged =
    if list_any (λ claim. is_early claim.verdict) judged.claims.items then Halted else status_of_end judged.end

-- a text and a status report the verdicts on all claims of a log, and its end
pub record JudgesAll (past : Bool) (log : List LogRow) (text : List ℕ) (status : ℕ) : Type 0 where
  pub judged : JudgedLog
  pub is_judged : IsJudgedLog past log judged
  pub lines : text ≡ flat_map claim_text judged.claims.items ++ end_text judged.end
  pub status_is : status ≡ number_of_status (status_of_judged judged)

-- a text and a status report the first early claim alone
pub record JudgesFirst (past : Bool) (log : List LogRow) (text : List ℕ) (status : ℕ) : Type 0 where
  pub claim : ClaimVerdict
  pub is_first : IsFirstEarly past log (Some claim)
  pub lines : text ≡ claim_text claim ++ codes "end early\n"
  pub status_is : status ≡ number_of_status Halted

-- all claims; or, if asked, the first early one, and all if none is early
abbrev pub JudgesBy : Bool → Bool → List LogRow → List ℕ → ℕ → Type 0
JudgesBy false past log text status = JudgesAll past log text status
JudgesBy true past log text status = JudgesFirst past log text status
    ⊎ (IsFirstEarly past log None × JudgesAll past log text status)

-- the rows have no order in which each is enabled
abbrev pub IsUnordered : List LogRow → Fault → Type 0
IsUnordered log fault = (process : ℕ) × (row : ℕ) × (fault ≡ Stuck process row) × IsStuck log process row

-- judging a log reports its verdicts; or an expected process has no row, or the rows have no order, or there is no
-- memory
abbrev pub judging : JudgeOptions → List LogRow → Spec (List ℕ × ℕ)
judging options log = record {
  gives = λ (text, status). IsFirstAbsent log options.processes None
      × JudgesBy options.first options.past log text status;
  refuses = OrMemory (λ fault.
      ((process : ℕ) × (fault ≡ Absent process) × IsFirstAbsent log options.processes (Some process))
      ⊎ (IsFirstAbsent log options.processes None × IsUnordered log fault));
}

-- what reading a log may give: the rows that its text means, which are well formed, and their sizes
abbrev pub reading_log : SizeLimits → Option (List ℕ) → Spec (List LogRow × Sizes)
reading_log limits log =
    let read = reading limits (λ text log. log_of_text limits text ≡ Some log)
    (λ text f. log_text_fault limits text ≡ Some f) log in record {
      gives = λ (rows, sizes). read.gives (rows, sizes) × IsWellFormed sizes rows;
      refuses = read.refuses;
    }

-- the same for the log of a reader
abbrev pub judging_from : JudgeOptions → Option (List ℕ) → Spec (List ℕ × ℕ)
judging_from options log = bind (reading_log options.limits log) (λ (rows, _). judging options rows)

-- the results of `judge`: the verdict on each claim, and the end
abbrev pub JudgeAnswers : Option (List ℕ) → JudgeOptions → Option (List ℕ) → Option (List ℕ) → Result Ended Fault → Type 0
JudgeAnswers log options old new result = CommandAnswers (judging_from options log) old new result
