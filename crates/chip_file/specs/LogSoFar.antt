-- What is known of the rows of a log so far.
use Rattle.std.specs.Prelude.{◌≡◌, ℕ, ◌+◌, ◌*◌, ◌==◌, Bool, if◌then◌else◌, List, [], ◌∷◌, ◌++◌, slice_index_or}
use Rattle.std.specs.Prelude.{Option, None, Some, unwrap_or, true, false}
use Rattle.chip_log.specs.declared.row.LogRow.{LogRow}
use Rattle.chip_log.specs.declared.row.Step.{Step}
use Rattle.chip_log.specs.declared.row.Step.TheVariants as step
use Rattle.chip_log.specs.Judge.{AreBeginners}
use Rattle.chip_log.specs.Log.{steps_of, active_after, begins_active, is_active}
use Rattle.chip_log.specs.Order.{may_send}
use Rattle.chip_file.specs.declared.log.LogSoFar.{LogSoFar}
use Rattle.chip_file.specs.LogText.{same_end, holder, may_hold, may_begin, sizes_of}

-- a list of numbers or marks, of which one is changed or new
abbrev pub NotesAt : {T : Type 0} → ℕ → T → List (Option T) → List (Option T) → Type 0
NotesAt place value old new =
    (i : ℕ) → slice_index_or new i None ≡ (if place == i then Some value else slice_index_or old i None)

-- the number of the end of a stream at which a step is
abbrev pub end_number : Step → Option ℕ
end_number (step.Out s) = Some (4 * s.channel + (if s.is_control then 1 else 0))
end_number (step.In s) = Some (4 * s.channel + (if s.is_control then 3 else 2))
end_number _ = None

-- whether a process is active after its steps, if it has any
abbrev pub activity : List Step → Option Bool
activity [] = None
activity (step ∷ steps) = Some (active_after (begins_active (step ∷ steps)) (step ∷ steps))

-- whether a process is active after one more step
abbrev pub next_activity : Option Bool → Step → Bool
next_activity was (step.In s) = if s.is_control then unwrap_or was false else true
next_activity was step.Passive = false
next_activity None step.Active = true
next_activity was _ = unwrap_or was false

-- for each end the process that has it, by the number of the end
abbrev pub AreHolders : List LogRow → List (Option ℕ) → Type 0
AreHolders log holders =
    (step : Step) (e : ℕ) → end_number step ≡ Some e → slice_index_or holders e None ≡ holder step log

-- for each process with a row whether it is active
abbrev pub AreActive : List LogRow → List (Option Bool) → Type 0
AreActive log active = (p : ℕ) → slice_index_or active p None ≡ activity (steps_of p log)

-- a row without a fault after the rows before it
pub record IsFaultless (log : List LogRow) (x : LogRow) : Type 0 where
  pub holds : may_hold (holder x.step log) x.process ≡ true
  pub sends : may_send (is_active log log x.process) x.step ≡ true
  pub begins : may_begin (steps_of x.process log) x.step ≡ true

-- the number of steps at an end of a stream
abbrev pub uses : Step → List Step → ℕ
uses end [] = 0
uses end (step ∷ steps) = (if same_end end step then 1 else 0) + uses end steps

-- a step of a process may follow its own steps before
abbrev pub MayMake : List Step → Step → Type 0
MayMake before step = (may_send (active_after (begins_active before) before) step ≡ true) × (may_begin before step ≡ true)

-- each of these steps may follow those before
abbrev pub AreAllowed : List Step → List Step → Type 0
AreAllowed before [] = Unit {0}
AreAllowed before (step ∷ steps) = MayMake before step × AreAllowed (before ++ step ∷ []) steps

-- what holds of rows without a fault: at each end is only the process that has it, and each makes only steps that it
-- may make
pub record IsSoundLog (log : List LogRow) : Type 0 where
  pub unused : (end : Step) (p : ℕ) → (holder end log ≡ Some p → ⊥) → uses end (steps_of p log) ≡ 0
  pub made : (p : ℕ) → AreAllowed [] (steps_of p log)

-- what is known of these rows
pub record IsSoFar (log : List LogRow) (s : LogSoFar) : Type 0 where
  pub rows : s.log.rows.items ≡ log
  pub sizes : s.log.sizes ≡ sizes_of log
  pub holders : AreHolders log s.holders.items
  pub active : AreActive log s.active.items
  pub beginners : AreBeginners (sizes_of log) log s.log.beginners.items
  pub sound : IsSoundLog log
