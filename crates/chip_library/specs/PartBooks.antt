-- The books of one process of a diffusing computation, in the caller's memory.
use Rattle.std.specs.Prelude.{◌≡◌, ℕ, ◌-◌, ◌^◌, ◌<◌, ◌≤◌, ◌==◌, if◌then◌else◌, Bool, true, List, Option, Some, None}
use Rattle.std.specs.Prelude.{length, Contains, Result, Ok, Err, IfOk}
use Rattle.chip_detect.specs.Tally.{AreTallies, message_limit, edge_limit, edges_of, tally_at, answered_on, open_on, all_open}
use Rattle.chip_detect.specs.declared.tallies.Tally.{Tally}
use Rattle.chip_detect.specs.declared.slot.Slot.{Slot}
use Rattle.chip_detect.specs.Slot.{IsSlotOf}
use Rattle.chip_detect.specs.Books.{Books, IsSound, in_edges, out_edges, got_of, sent_of, owed}
use Rattle.chip_detect.specs.Acknowledging.{may_ack}
use Rattle.chip_detect.specs.Steps.{Step, Got, Acked, Sent, Settled, Makes}
use Rattle.chip_library.specs.declared.detector.BooksFault.{BooksFault}
use Rattle.chip_library.specs.declared.detector.BooksFault.TheVariants.{NotSound, NotYet}

-- the number of a fault in the table of faults
abbrev pub books_fault_number : BooksFault → ℕ
books_fault_number NotSound = 46
books_fault_number NotYet = 47

-- the word for no parent: no edge has this number
abbrev pub neutral : ℕ
neutral = 2 ^ 64 - 1

-- the parent edge that a word gives
abbrev pub parent_of : ℕ → Option ℕ
parent_of word = if word == neutral then None else Some word

-- the books that these slices and this word give
abbrev pub books_of : (ins outs : List Tally) → ℕ → Books
books_of ins outs parent = record { ins = ins; outs = outs; parent = parent_of parent }

-- e is one of these edges
abbrev pub HasEdge : List ℕ → ℕ → Type 0
HasEdge edges e = Contains edges e × (e < neutral)

-- the books have the edge of the step, and its count is not too high
abbrev pub HasRoom : Books → Step → Type 0
HasRoom b (Got e) = HasEdge (in_edges b) e × (got_of b e < message_limit)
HasRoom b (Acked e count) = HasEdge (in_edges b) e × (count ≤ owed b e)
HasRoom b (Sent e) = HasEdge (out_edges b) e × (sent_of b e < message_limit)
HasRoom b (Settled e word) = HasEdge (out_edges b) e × (word ≤ sent_of b e)

-- the step is due: an acknowledgement if `count` messages may be acknowledged now, any other step always
abbrev pub IsDue : Books → Bool → Step → Type 0
IsDue b passive (Acked e count) = count ≤ may_ack b e passive
IsDue b passive s = Unit {0}

-- why sound books refuse a step
abbrev pub IsRefusal : Books → Bool → Step → BooksFault → Type 0
IsRefusal b passive s NotSound = HasRoom b s → ⊥
IsRefusal b passive s NotYet = HasRoom b s × (IsDue b passive s → ⊥)

-- what a call returns that notes a step of a process, passive or not: sound books have the step and stay sound, or they
-- refuse it. A refusal changes nothing, in sound books or others
abbrev pub Notes : {T : Type 0} → (old new : Books) → Bool → Step → Result T BooksFault → Type 0
Notes old new passive s (Ok done) = IsSound old → HasRoom old s × IsDue old passive s × Makes old s new × IsSound new
Notes old new passive s (Err fault) = (new ≡ old) × (IsSound old → IsRefusal old passive s fault)

-- what a call returns that notes the acknowledgements an edge's head reports, whatever the other books of the process
pub record Settling (old new : List Tally) (e word : ℕ) (told : Result ℕ BooksFault) : Type 0 where
  pub notes : (ins : List Tally) (parent : ℕ) → Notes (books_of ins old parent) (books_of ins new parent) true (Settled e word) told
  pub more : IfOk told (λ more. AreTallies old → more ≡ word - answered_on old e)

-- what a call returns that reads books: what is right of sound ones, if they have what is asked for
abbrev pub ReadsBooks : {T : Type 0} → Books → Type 0 → (T → Type 0) → Result T BooksFault → Type 0
ReadsBooks b has right (Ok told) = IsSound b → has × right told
ReadsBooks b has right (Err fault) = (fault ≡ NotSound) × (IsSound b → has → ⊥)

-- at most as many are answered as there are messages, within the limit
pub record IsPossible (t : Tally) : Type 0 where
  pub answered : t.answered ≤ t.messages
  pub within : t.messages ≤ message_limit

-- all are possible, and there are not too many of them
pub record ArePossible (ts : List Tally) : Type 0 where
  pub few : length ts ≤ edge_limit
  pub each : (i : ℕ) → i < length ts → IsPossible (tally_at ts i)

-- a call that adds up all these tallies refuses if one is impossible
abbrev pub AddsUp : {T : Type 0} → List Tally → Result T BooksFault → Type 0
AddsUp ts told = (ArePossible ts → ⊥) → told ≡ Err NotSound

-- a call for the edge e adds up both sides if e is the parent
abbrev pub AddsUpForParent : {T : Type 0} → (ins outs : List Tally) → (parent e : ℕ) → Result T BooksFault → Type 0
AddsUpForParent ins outs parent e told = parent ≡ e → AddsUp ins told × AddsUp outs told

-- the slot of the edge e and its tally, which is possible
pub record IsFound (ts : List Tally) (e : ℕ) (slot : Slot) (t : Tally) : Type 0 where
  pub slot_is : IsSlotOf (edges_of ts) slot
  pub edge_is : slot.edge ≡ e
  pub tally_is : t ≡ tally_at ts slot.index
  pub is_edge : e < neutral
  pub possible : IsPossible t

-- something is owed on the parent edge; without a parent edge nothing is owed
pub record Suits (ins : List Tally) (parent : Option ℕ) : Type 0 where
  pub engaged : (p : ℕ) → parent ≡ Some p → 0 < open_on ins p
  pub neutral_owes : parent ≡ None → all_open ins ≡ 0

-- each has the number of an edge
abbrev pub AreNumbered : List Tally → Type 0
AreNumbered ts = (i : ℕ) → i < length ts → (tally_at ts i).edge < neutral

-- sound books of edges that have numbers
pub record AreBooks (ins outs : List Tally) (parent : ℕ) : Type 0 where
  pub ins_have : AreNumbered ins
  pub outs_have : AreNumbered outs
  pub sound : IsSound (books_of ins outs parent)
