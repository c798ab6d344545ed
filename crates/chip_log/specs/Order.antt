-- The rows of a log in an order in which each is enabled, or where they are stuck.
use Rattle.std.specs.Prelude.{◌≡◌, ℕ, ◌<◌, Bool, true, false, if◌then◌else◌, List, [], ◌∷◌, ◌++◌, length}
use Rattle.chip_log.specs.Log.{steps_of, active_after, begins_active, is_enabled, AreEnabled, HasEnds}
use Rattle.chip_log.specs.Past.{Fits}
use Rattle.chip_log.specs.declared.row.LogRow.{LogRow}
use Rattle.chip_log.specs.declared.row.Step.{Step}
use Rattle.chip_log.specs.declared.row.Step.TheVariants.{Out}
use Rattle.chip_log.specs.declared.past.Sizes.{Sizes}
use Rattle.chip_log.specs.declared.fault.OrderFault.{OrderFault}
use Rattle.chip_log.specs.declared.fault.OrderFault.TheVariants.{Stuck, NoMemory}

-- whether a process that is active or not may make a step: only an active one sends basic messages
abbrev pub may_send : Bool → Step → Bool
may_send active (Out s) = if s.is_control then true else active
may_send active _ = true

-- each basic message of these steps is sent while active
abbrev pub AreSent : Bool → List Step → Type 0
AreSent active [] = Unit {0}
AreSent active (step ∷ steps) = (may_send active step ≡ true) × AreSent (active_after active (step ∷ [])) steps

-- what can be seen of a log without an order: the ends of its streams, that only active processes send, and the sizes
pub record IsWellFormed (sizes : Sizes) (log : List LogRow) : Type 0 where
  pub ends : HasEnds log
  pub sent : (p : ℕ) → AreSent (begins_active (steps_of p log)) (steps_of p log)
  pub fits : Fits sizes log

-- ---- progress

-- rows that were done: the first ones of each process, each enabled at its place
pub record IsProgress (log used : List LogRow) : Type 0 where
  pub left : ℕ → List Step
  pub own : (p : ℕ) → steps_of p used ++ left p ≡ steps_of p log
  pub met : AreEnabled log [] used

-- and no process can make its next step
pub record IsMaximal (log used : List LogRow) : Type 0 where
  pub progress : IsProgress log used
  pub stuck : (p : ℕ) (step : Step) (later : List Step) → progress.left p ≡ step ∷ later → is_enabled log used p step ≡ false

-- after maximal progress p is the least process with a row left, and i rows of it were done
pub record IsStuck (log : List LogRow) (p i : ℕ) : Type 0 where
  pub used : List LogRow
  pub greatest : IsMaximal log used
  pub place : length (steps_of p used) ≡ i
  pub some : i < length (steps_of p log)
  pub least : (q : ℕ) → q < p → steps_of q used ≡ steps_of q log

-- the fault of a log; memory may run out on any
abbrev pub IsOrderFault : List LogRow → OrderFault → Type 0
IsOrderFault log (Stuck p i) = IsStuck log p i
IsOrderFault log NoMemory = Unit {0}
