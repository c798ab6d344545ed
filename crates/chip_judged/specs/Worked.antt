-- Worked rows: of the run in which the root, process 1, sends one message to process 0, and of single events.
use Rattle.std.specs.Prelude.{◌≡◌, ℕ, ◌==◌, Bool, not, ◌&&◌, List, [], ◌∷◌}
use Rattle.chip_diffusing.specs.Computation.{Get, Ack, Settle, IsLegalLog}
use Rattle.chip_diffusing.specs.Worked.{pair, whole, closed, at_work}
use Rattle.chip_log.specs.Claims.{basic}
use Rattle.chip_log.specs.Judged.{control}
use Rattle.chip_log.specs.Missing.{IsWithout}
use Rattle.chip_log.specs.declared.row.LogRow.{LogRow}
use Rattle.chip_log.specs.declared.row.Stream.{Stream}
use Rattle.chip_log.specs.declared.row.Step.TheVariants.{Out, In, Passive, Active, Over}
use Rattle.chip_judged.specs.Rows.{steps_by, log_row, rows_of_run}
use Rattle.chip_judged.specs.Laws.{AreJudgedRight}

-- the root begins active, sends and rests; process 0 gets the message, rests and acknowledges; the root settles and
-- claims
abbrev pub WholeRows : Type 0
WholeRows = (legal : IsLegalLog pair whole closed) × (rows_of_run pair whole closed legal
    ≡ log_row 1 Active ∷ log_row 1 (Out (basic 0)) ∷ log_row 1 Passive ∷ log_row 0 (In (basic 0)) ∷ log_row 0 Passive
    ∷ log_row 0 (Out (control 0)) ∷ log_row 1 (In (control 0)) ∷ log_row 1 Over ∷ [])

-- a message leaves its process passive at once, or active; two are acknowledged at once, and two settled, of which one
-- was
abbrev pub EventRows : Type 0
EventRows = (steps_by pair closed (Get 0) closed ≡ In (basic 0) ∷ Passive ∷ [])
    × (steps_by pair closed (Get 0) at_work ≡ In (basic 0) ∷ [])
    × (steps_by pair closed (Ack 0 2) closed ≡ Out (control 0) ∷ Out (control 0) ∷ [])
    × (steps_by pair closed (Settle 0 3) closed ≡ In (control 0) ∷ In (control 0) ∷ [])

-- the rows of the whole run, those of process 0 first
abbrev pub mixed : List LogRow
mixed =
    log_row 0 (In (basic 0)) ∷ log_row 0 Passive ∷ log_row 0 (Out (control 0)) ∷ log_row 1 Active
    ∷ log_row 1 (Out (basic 0)) ∷ log_row 1 Passive ∷ log_row 1 (In (control 0)) ∷ log_row 1 Over ∷ []

-- rows of a root that claims before it has settled its message
abbrev pub early : List LogRow
early =
    log_row 1 Active ∷ log_row 1 (Out (basic 0)) ∷ log_row 1 Passive ∷ log_row 1 Over ∷ log_row 0 (In (basic 0))
    ∷ log_row 0 Passive ∷ []

-- the rows of the run are judged right, and the early claim is not
abbrev pub OneIsJudgedRight : Type 0
OneIsJudgedRight = AreJudgedRight pair mixed × (AreJudgedRight pair early → ⊥)

-- all steps stay but step i of one process
abbrev pub all_but : ℕ → ℕ → ℕ → ℕ → Bool
all_but missing i p n = not (p == missing && n == i)

-- no control message is told
abbrev pub none_told : Stream → ℕ → Bool
none_told s n = not s.is_control

-- a tell may be missing if its hear is, but not the row `active`, nor a tell whose hear stays
pub record SomeMayBeMissing : Type 0 where
  pub without_tell : IsWithout (all_but 0 0) none_told
      (log_row 0 (Out (control 0)) ∷ log_row 0 Over ∷ []) (log_row 0 Over ∷ [])
  pub without_active : (told : Stream → ℕ → Bool)
      → IsWithout (all_but 0 0) told (log_row 0 Active ∷ log_row 0 Over ∷ []) (log_row 0 Over ∷ []) → ⊥
  pub without_heard : (told : Stream → ℕ → Bool)
      → IsWithout (all_but 0 0) told (log_row 0 (Out (control 0)) ∷ log_row 1 (In (control 0)) ∷ [])
      (log_row 1 (In (control 0)) ∷ []) → ⊥
