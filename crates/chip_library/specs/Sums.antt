-- The books of one process with two sums, so that no step adds up tallies.
use Rattle.std.specs.Prelude.{◌≡◌, ◌↔◌, ℕ, ◌-◌, Bool, true, Result, Ok, Err, IfOk, IsTrue}
use Rattle.chip_detect.specs.Books.{Books, IsSound, in_edges, acked_of, settled_of, all_owed, deficit}
use Rattle.chip_detect.specs.Acknowledging.{may_ack}
use Rattle.chip_detect.specs.Steps.{Step, Acked, Settled}
use Rattle.chip_diffusing.specs.Laws.{IsOver}
use Rattle.chip_library.specs.declared.detector.BooksFault.{BooksFault}
use Rattle.chip_library.specs.declared.detector.BooksFault.TheVariants.{NotSound}
use Rattle.chip_library.specs.declared.sums.SummedBooks.{SummedBooks}
use Rattle.chip_library.specs.declared.sums.Acknowledged.{Acknowledged}
use Rattle.chip_library.specs.PartBooks.{books_of, HasEdge, AreBooks, Notes, ReadsBooks}

-- books, the kept sum of all that is owed, and the kept deficit
pub record Summed : Type 0 where
  pub books : Books
  pub owed : ℕ
  pub deficit : ℕ

-- the sums are those of the tallies
pub record HasSums (s : Summed) : Type 0 where
  pub owed : s.owed ≡ all_owed s.books
  pub deficit : s.deficit ≡ deficit s.books

-- what a struct holds
abbrev pub summed_of : SummedBooks → Summed
summed_of b = record { books = books_of b.ins.now b.outs.now b.parent; owed = b.owed; deficit = b.deficit }

-- the books in a struct are sound, of edges that have numbers, and its sums are right
pub record AreSummed (b : SummedBooks) : Type 0 where
  pub books : AreBooks b.ins.now b.outs.now b.parent
  pub sums : HasSums (summed_of b)

-- a struct still points to the same tallies
pub record PointsAlike (old new : SummedBooks) : Type 0 where
  pub ins : new.ins.ghost_name ≡ old.ins.ghost_name
  pub outs : new.outs.ghost_name ≡ old.outs.ghost_name

-- what a call returns that notes a step: with right sums, what the call on slices returns, and the sums of sound books
-- stay right. A refusal changes neither books nor sums, right or not
abbrev pub NotesSummed : {T : Type 0} → (old new : Summed) → Bool → Step → Result T BooksFault → Type 0
NotesSummed old new passive s (Ok done) =
    HasSums old → Notes old.books new.books passive s (Ok done) × (IsSound old.books → HasSums new)
NotesSummed {T} old new passive s (Err fault) =
    (new ≡ old) × (HasSums old → Notes {T = T} old.books new.books passive s (Err fault))

-- what a call returns that notes the acknowledgements an edge's head reports
pub record SettlesSummed (old new : Summed) (e word : ℕ) (told : Result ℕ BooksFault) : Type 0 where
  pub notes : NotesSummed old new true (Settled e word) told
  pub more : IfOk told (λ more. HasSums old → IsSound old.books → more ≡ word - settled_of old.books e)

-- the number of messages acknowledged, if any
abbrev pub count_in : Result Acknowledged BooksFault → ℕ
count_in (Ok now) = now.count
count_in (Err fault) = 0

-- what a call returns that acknowledges all messages of an edge that may be acknowledged
pub record AcknowledgesAll (old new : Summed) (e : ℕ) (passive : Bool) (told : Result Acknowledged BooksFault) : Type 0 where
  pub all : HasSums old → ReadsBooks old.books (HasEdge (in_edges old.books) e) (λ now. now.count ≡ may_ack old.books e passive) told
  pub notes : NotesSummed old new passive (Acked e (count_in told)) told
  pub so_far : IfOk told (λ now. IsSound old.books → now.so_far ≡ acked_of new.books e)

-- what opening books returns: they are sound, and the sums are right; or they are not sound, and nothing changes
abbrev pub Opens : (old new : SummedBooks) → Result (Unit {0}) BooksFault → Type 0
Opens old new (Ok done) = AreSummed new × ((summed_of new).books ≡ (summed_of old).books)
Opens old new (Err fault) =
    (summed_of new ≡ summed_of old) × (fault ≡ NotSound) × (AreBooks old.ins.now old.outs.now old.parent → ⊥)

-- what is reported of the end: it is over if the root has ended and its kept deficit is 0, which is right of sound
-- books with right sums
pub record TellsOver (s : Summed) (ended over : Bool) : Type 0 where
  pub value : IsTrue over ↔ IsTrue ended × (s.deficit ≡ 0)
  pub right : HasSums s → IsSound s.books → IsTrue over → IsOver s.books ended
