-- A diffusing computation: the root starts it, and a process that no message woke does nothing. The contents of
-- messages and the work of a process are left open: the model has only the books of a process and whether it is
-- passive. So whatever holds of these logs holds of every computation whose processes keep to the rules.
use Rattle.std.specs.Prelude.{◌≡◌, ◌≢◌, ℕ, ◌-◌, ◌<◌, ◌≤◌, Bool, true, false, List, [], ◌∷◌, Option, Some, None}
use Rattle.std.specs.Option.{MatchOption}
use Rattle.chip_detect.specs.Tally.{message_limit}
use Rattle.chip_detect.specs.Books.{Books, IsSound, AreFreshBooks, got_of, acked_of, sent_of, settled_of, deficit}
use Rattle.chip_detect.specs.Acknowledging.{may_ack}
use Rattle.chip_detect.specs.Steps.{Step, Got, Acked, Sent, Settled, Makes}
use Rattle.chip_diffusing.specs.Network.{Network, IsInto, IsOutOf, AreAll}

-- a process: its books, and whether it has nothing to do until a message comes. The root is passive once it sends no
-- more
pub record PartState : Type 0 where
  pub books : Books
  pub passive : Bool

-- all processes, by their numbers
abbrev pub World : Type 0
World = ℕ → PartState

-- messages sent on an edge and messages got there, as its tail and its head count them
abbrev pub sent_on : Network → World → ℕ → ℕ
sent_on net w e = sent_of (w (net.tail e)).books e

abbrev pub got_on : Network → World → ℕ → ℕ
got_on net w e = got_of (w (net.head e)).books e

-- acknowledgements given, and those that the tail has settled
abbrev pub acked_on : Network → World → ℕ → ℕ
acked_on net w e = acked_of (w (net.head e)).books e

abbrev pub settled_on : Network → World → ℕ → ℕ
settled_on net w e = settled_of (w (net.tail e)).books e

-- the number of messages in transit
abbrev pub in_transit : Network → World → ℕ → ℕ
in_transit net w e = sent_on net w e - got_on net w e

-- a message is sent or got on an edge; a number of its messages is acknowledged; the tail reads that `word` have been
-- acknowledged in all; or a process does something of its own
pub data Event : Type 0 where
  Send : ℕ → Event
  Get : ℕ → Event
  Ack : ℕ → ℕ → Event
  Settle : ℕ → ℕ → Event
  Work : ℕ → Event

-- the process that makes it
abbrev pub process_of : Network → Event → ℕ
process_of net (Send e) = net.tail e
process_of net (Get e) = net.head e
process_of net (Ack e n) = net.head e
process_of net (Settle e word) = net.tail e
process_of net (Work p) = p

-- when it is enabled: no passive process sends; what is got was sent; no more is acknowledged than the books allow; and
-- what is settled was acknowledged, now or earlier
abbrev pub May : Network → World → Event → Type 0
May net w (Send e) =
    (e < net.edges) × ((w (net.tail e)).passive ≡ false) × (sent_on net w e < message_limit)
May net w (Get e) = (e < net.edges) × (got_on net w e < sent_on net w e)
May net w (Ack e n) =
    (e < net.edges) × (n ≤ may_ack (w (net.head e)).books e (w (net.head e)).passive)
May net w (Settle e word) = (e < net.edges) × (settled_on net w e ≤ word) × (word ≤ acked_on net w e)
May net w (Work p) = p < net.parts

-- the call of `Detect` that notes it in the books, if there is one
abbrev pub call_of : Event → Option Step
call_of (Send e) = Some (Sent e)
call_of (Get e) = Some (Got e)
call_of (Ack e n) = Some (Acked e n)
call_of (Settle e word) = Some (Settled e word)
call_of (Work p) = None

-- what the books note of it: what that call ensures, or nothing
abbrev pub NotesEvent : Books → Event → Books → Type 0
NotesEvent old x new = MatchOption (call_of x) (new ≡ old) (λ s. Makes old s new)

-- only a message wakes a passive process. It may become passive again at once, or later, by itself
abbrev pub Wakes : Bool → Event → Bool → Type 0
Wakes old (Get e) new = Unit {0}
Wakes old _ new = old ≡ true → new ≡ true

-- the event is enabled and made, and all other processes are unchanged
pub record Happens (net : Network) (old : World) (x : Event) (new : World) : Type 0 where
  pub may : May net old x
  pub notes : NotesEvent (old (process_of net x)).books x (new (process_of net x)).books
  pub wakes : Wakes (old (process_of net x)).passive x (new (process_of net x)).passive
  pub others : (p : ℕ) → p ≢ process_of net x → new p ≡ old p

-- a process before all events: nothing got or sent on its edges, and passive unless it is the root
pub record OpensPart (net : Network) (p : ℕ) (s : PartState) : Type 0 where
  pub ins : List ℕ
  pub outs : List ℕ
  pub all_ins : AreAll ins (IsInto net p)
  pub all_outs : AreAll outs (IsOutOf net p)
  pub fresh : AreFreshBooks s.books ins outs
  pub sound : IsSound s.books
  pub passive : p ≢ net.root → s.passive ≡ true

-- the events that were made, the latest first
abbrev pub Log : Type 0
Log = List Event

-- these events lead from the one world to the other
abbrev pub Leads : Network → World → Log → World → Type 0
Leads net old [] new = old ≡ new
Leads net old (x ∷ log) new = (w : World) × Leads net old log w × Happens net w x new

-- a legal log, and the world that it leaves
pub record IsLegalLog (net : Network) (log : Log) (w : World) : Type 0 where
  pub first : World
  pub opens : (p : ℕ) → p < net.parts → OpensPart net p (first p)
  pub leads : Leads net first log w

-- ---- the end

-- it is over: nothing is in transit, and every process is passive
pub record IsQuiescent (net : Network) (w : World) : Type 0 where
  pub delivered : (e : ℕ) → e < net.edges → in_transit net w e ≡ 0
  pub passive : (p : ℕ) → p < net.parts → (w p).passive ≡ true

-- the root reports it: it sends no more, and waits for no acknowledgement. It reads only its own books
pub record HasClosedRoot (net : Network) (w : World) : Type 0 where
  pub ended : (w net.root).passive ≡ true
  pub settled : deficit (w net.root).books ≡ 0
