-- Rows that are put into an order.
use Rattle.std.specs.Prelude.{◌≡◌, ℕ, ◌+◌, ◌*◌, ◌^◌, ◌<◌, ◌≤◌, nat_lt, Bool, true, false, List, [], ◌∷◌, ◌++◌, length, All}
use Rattle.std.specs.Prelude.{slice_set, drop, Option, Some, None}
use Rattle.chip_log.specs.Log.{steps_of, begins_active, AreEnabled}
use Rattle.chip_log.specs.Tally.{TallyState, count}
use Rattle.chip_log.specs.Books.{Passes, IsOf}
use Rattle.chip_log.specs.Past.{AreInFlight, Fits}
use Rattle.chip_log.specs.Queues.{queue_of, total}
use Rattle.chip_log.specs.Order.{AreSent}
use Rattle.chip_log.specs.declared.row.LogRow.{LogRow}
use Rattle.chip_log.specs.declared.row.Step.{Step}
use Rattle.chip_log.specs.declared.row.Step.TheVariants.{In}
use Rattle.chip_log.specs.declared.past.Sizes.{Sizes}
use Rattle.chip_log.specs.declared.order.Order.{Order}

-- whether the message that a step gets is there
abbrev pub is_there : TallyState → Step → Bool
is_there flight (In s) = nat_lt 0 (count flight s)
is_there flight _ = true

-- an order of these sizes, whose flight is that of the rows done
pub record IsReady (sizes : Sizes) (o : Order) : Type 0 where
  pub processes : length o.queues ≡ sizes.processes
  pub agenda : o.agenda.processes ≡ sizes.processes
  pub channels : o.agenda.channels ≡ sizes.channels
  pub streams : o.flight.channels ≡ sizes.channels
  pub fits : (p : ℕ) → All (IsOf sizes.channels) (queue_of o.queues p)
  pub done : Fits sizes o.done.items
  pub flight : AreInFlight o.done.items o.flight
  pub few : length o.done.items + total o.queues < 2 ^ 32

-- one more row is read
pub record Reads (x : LogRow) (old new : Order) : Type 0 where
  pub queues : new.queues ≡ slice_set old.queues x.process (queue_of old.queues x.process ++ x.step ∷ [])
  pub done : new.done.items ≡ old.done.items
  pub flight : new.flight ≡ old.flight
  pub processes : new.agenda.processes ≡ old.agenda.processes
  pub channels : new.agenda.channels ≡ old.agenda.channels

-- the next step of a process
abbrev pub IsNextStep : Order → ℕ → Step → Type 0
IsNextStep o p step = (later : List Step) × (queue_of o.queues p ≡ step ∷ later)

-- it is made
pub record MakesNextStep (p : ℕ) (step : Step) (old new : Order) : Type 0 where
  pub queues : new.queues ≡ slice_set old.queues p (drop 1 (queue_of old.queues p))
  pub done : new.done.items ≡ old.done.items ++ record { process = p; step = step } ∷ []
  pub flight : Passes step new.flight old.flight
  pub processes : new.agenda.processes ≡ old.agenda.processes
  pub channels : new.agenda.channels ≡ old.agenda.channels
  pub due : new.agenda.due ≤ old.agenda.due + 2

-- the rows done of a log, of which `unread` were not read, are the first ones of each process, each enabled
pub record IsOrderKept (log unread : List LogRow) (o : Order) : Type 0 where
  pub own : (p : ℕ) → steps_of p o.done.items ++ (queue_of o.queues p ++ steps_of p unread) ≡ steps_of p log
  pub met : AreEnabled log [] o.done.items

-- what can make the agenda longer, and its length
abbrev pub order_work_left : Order → ℕ
order_work_left o = 2 * total o.queues + o.agenda.due

-- some more steps were made
pub record OrderGoesOn (sizes : Sizes) (old new : Order) : Type 0 where
  pub ready : IsReady sizes new
  pub same : length new.done.items + total new.queues ≡ length old.done.items + total old.queues
  pub fewer : total new.queues ≤ total old.queues
  pub less : order_work_left new ≤ order_work_left old
  pub keeps : (log unread : List LogRow) → ((p : ℕ) → AreSent (begins_active (steps_of p log)) (steps_of p log))
      → IsOrderKept log unread old → IsOrderKept log unread new

-- no process can make its next step
abbrev pub IsOrderBlocked : Order → Type 0
IsOrderBlocked o = (p : ℕ) (step : Step) → IsNextStep o p step → is_there o.flight step ≡ false

-- the least process with a step left
abbrev pub IsFirstLeft : Order → Option ℕ → Type 0
IsFirstLeft o None = (p : ℕ) → queue_of o.queues p ≡ []
IsFirstLeft o (Some p) = (0 < length (queue_of o.queues p)) × ((q : ℕ) → q < p → queue_of o.queues q ≡ [])
