-- Serves Sums.antt.
-- What a step does to the sums of books.
use Rattle.std.proofs.Common.{◌≡◌, ◌≢◌, ℕ, ◌+◌, ◌-◌, ◌≤◌, eqb, Bool, true, List, Ok, Err, refl, sym, ap, ◌∙◌, subst, arith}
use Rattle.std.proofs.lemmas.Bool.Decides.{nat_tests}
use Rattle.chip_detect.specs.declared.tallies.Tally.{Tally}
use Rattle.chip_detect.specs.declared.slot.Slot.{Slot}
use Rattle.chip_detect.specs.Tally.{AreTallies, edges_of, answered_on, open_on, all_open}
use Rattle.chip_detect.specs.Change.{AddsAnswers}
use Rattle.chip_detect.specs.Books.{IsSound}
use Rattle.chip_detect.specs.Acknowledging.{acknowledgeable_count, may_ack}
use Rattle.chip_detect.specs.Steps.{Got, Sent, Acked, Gets, Sends, Settles, Acknowledges}
use Rattle.chip_detect.proofs.ChangesLemmas.{message_total, answers_total, open_within_total}
use Rattle.chip_diffusing.proofs.OrderLemmas.{tells_over}
use Rattle.chip_library.specs.declared.detector.BooksFault.{BooksFault}
use Rattle.chip_library.specs.declared.sums.Acknowledged.{Acknowledged}
use Rattle.chip_library.specs.PartBooks.{neutral, parent_of, books_of, HasEdge, HasRoom, IsFound, Settling}
use Rattle.chip_library.specs.Sums.{Summed, HasSums, AcknowledgesAll, SettlesSummed, TellsOver}
use Rattle.chip_library.proofs.BooksLemmas.{open_of, among, reads, open_is, acked_noted}

pub sent_sums : (old new : Summed) (e : ℕ) → HasSums old → IsSound old.books → HasRoom old.books (Sent e)
    → Sends old.books new.books e → new.owed ≡ old.owed → new.deficit ≡ old.deficit + 1 → HasSums new
sent_sums old new e sums sound room step owed waiting = record {
  owed = owed ∙ sums.owed ∙ ap all_open (sym step.ins);
  deficit = omega (arith, waiting, sums.deficit, message_total old.books.outs new.books.outs e sound.outs step.outs room.0.0);
}

pub got_sums : (old new : Summed) (e : ℕ) → HasSums old → IsSound old.books → HasRoom old.books (Got e)
    → Gets old.books new.books e → new.owed ≡ old.owed + 1 → new.deficit ≡ old.deficit → HasSums new
got_sums old new e sums sound room step owed waiting = record {
  owed = omega (arith, owed, sums.owed, message_total old.books.ins new.books.ins e sound.ins step.ins room.0.0);
  deficit = waiting ∙ sums.deficit ∙ ap all_open (sym step.outs);
}

pub settled_sums : (old new : Summed) (e more : ℕ) → HasSums old → IsSound old.books → HasEdge (edges_of old.books.outs) e
    → more ≤ open_on old.books.outs e → Settles old.books new.books e more → new.owed ≡ old.owed
    → new.deficit ≡ old.deficit - more → HasSums new
settled_sums old new e more sums sound on few step owed waiting = record {
  owed = owed ∙ sums.owed ∙ ap all_open (sym step.ins);
  deficit = omega (
    arith,
    waiting,
    sums.deficit,
    answers_total old.books.outs new.books.outs e more sound.outs step.outs few on.0,
  );
}

module _ (ins outs outs' : List Tally) (parent owed waiting e word : ℕ) where
  abbrev unsettled : Summed
  unsettled = record { books = books_of ins outs parent; owed = owed; deficit = waiting }

  -- the sum has what is open on the edge
  sum_has : HasSums unsettled → open_on outs e ≤ waiting
  sum_has sums = omega (arith, open_within_total outs e, sums.deficit)

  pub settled_noted_in_sums : (more : ℕ)
      → ((AreTallies outs → open_on outs e ≤ waiting) → Settling outs outs' e word (Ok more))
      → SettlesSummed unsettled (record { books = books_of ins outs' parent; owed = owed; deficit = waiting - more }) e word (Ok more)
  settled_noted_in_sums more settles = record {
    notes = λ sums.
        let done = settles (λ are. sum_has sums) in
        let noted = done.notes ins parent in (
          noted,
          λ sound.
              let n = noted sound in
              settled_sums unsettled _ e (word - answered_on outs e) sums sound n.0.0 (omega (arith, n.0.1)) n.2 refl
              (omega (arith, done.more sound.outs)),
        );
    more = λ sums sound. (settles (λ are. sum_has sums)).more sound.outs;
  }

  pub settled_refused_in_sums : (fault : BooksFault) → outs' ≡ outs
      → ((AreTallies outs → open_on outs e ≤ waiting) → Settling outs outs' e word (Err fault))
      → SettlesSummed unsettled (record { books = books_of ins outs' parent; owed = owed; deficit = waiting }) e word (Err fault)
  settled_refused_in_sums fault same settles = record {
    notes = (
      ap (λ (ts : List Tally). record { books = books_of ins ts parent; owed = owed; deficit = waiting }) same,
      λ sums. (settles (λ are. sum_has sums)).notes ins parent,
    );
    more = tt;
  }

-- the count by the sums is what may be acknowledged
pub may_by_sums : (ins outs : List Tally) (parent owed waiting e count : ℕ) (passive : Bool) (slot : Slot) (t : Tally)
    → IsFound ins e slot t → HasSums (record { books = books_of ins outs parent; owed = owed; deficit = waiting })
    → IsSound (books_of ins outs parent)
    → count ≡ acknowledgeable_count e (parent_of parent) (open_of t) owed waiting passive
    → count ≡ may_ack (books_of ins outs parent) e passive
may_by_sums ins outs parent owed waiting e count passive slot t is sums sound same =
    same ∙ moved (open_is ins e slot t is sound.ins) sums.owed sums.deficit
  where
    moved : {a a' b b' c c' : ℕ} → a ≡ a' → b ≡ b' → c ≡ c'
        → acknowledgeable_count e (parent_of parent) a b c passive ≡ acknowledgeable_count e (parent_of parent) a' b' c' passive
    moved x y z = rw (x, y, z) refl

-- at most the sum is open on one edge
pub open_within_sum : (ins outs : List Tally) (parent owed waiting e : ℕ) (slot : Slot) (t : Tally) → IsFound ins e slot t
    → HasSums (record { books = books_of ins outs parent; owed = owed; deficit = waiting })
    → IsSound (books_of ins outs parent) → open_of t ≤ owed
open_within_sum ins outs parent owed waiting e slot t is sums sound =
    omega (arith, open_is ins e slot t is sound.ins, open_within_total ins e, sums.owed)

module _ (ins ins' outs : List Tally) (parent parent' owed owed' waiting e : ℕ) (passive : Bool) (slot : Slot) (t : Tally)
    (told : Acknowledged) (is : IsFound ins e slot t) where
  abbrev old : Summed
  old = record { books = books_of ins outs parent; owed = owed; deficit = waiting }

  abbrev new : Summed
  new = record { books = books_of ins' outs parent'; owed = owed'; deficit = waiting }

  pub acknowledged_all : told.count ≡ acknowledgeable_count e (parent_of parent) (open_of t) owed waiting passive
      → told.count ≤ open_of t → owed' ≡ owed - told.count → told.so_far ≡ t.answered + told.count
      → (AreTallies ins → AddsAnswers ins ins' slot.edge told.count)
      → (parent ≡ e → told.count ≡ open_of t → parent' ≡ neutral)
      → ((parent ≡ e → told.count ≢ open_of t) → parent' ≡ parent)
      → AcknowledgesAll old new e passive (Ok told)
  acknowledged_all value few owed_is so_far adds goes stays =
      record {
        all = λ sums sound. (among ins e slot t is, may sums sound);
        notes = λ sums. (
          noted sums,
          λ sound. sums_after sums sound (noted sums sound).2,
        );
        so_far = λ sound. omega (
          arith,
          so_far,
          reads ins e slot t is sound.ins (λ u. u.answered),
          here (made sound),
        );
      }
    where
      may : HasSums old → IsSound old.books → told.count ≡ may_ack old.books e passive
      may sums sound = may_by_sums ins outs parent owed waiting e told.count passive slot t is sums sound value

      made : IsSound old.books → AddsAnswers ins ins' e told.count
      made sound = subst (λ (d : ℕ). AddsAnswers ins ins' d told.count) is.edge_is (adds sound.ins)

      here : AddsAnswers ins ins' e told.count → answered_on ins' e ≡ answered_on ins e + told.count
      here change = grind (arith, nat_tests, change.answered e)

      noted : HasSums old → IsSound old.books
          → HasRoom old.books (Acked e told.count) × (told.count ≤ may_ack old.books e passive)
          × Acknowledges old.books new.books e told.count × IsSound new.books
      noted sums = acked_noted ins ins' outs parent parent' e told.count passive slot t is few
          (λ sound. omega (arith, may sums sound)) adds goes stays

      sums_after : HasSums old → IsSound old.books → Acknowledges old.books new.books e told.count → HasSums new
      sums_after sums sound step = record {
        owed = omega (
          arith,
          owed_is,
          sums.owed,
          answers_total ins ins' e told.count sound.ins step.ins
              (omega (arith, few, open_is ins e slot t is sound.ins)) (among ins e slot t is).0,
        );
        deficit = sums.deficit;
      }

-- ---- the end

pub over_in_sums : (s : Summed) (ended : Bool) → ended ≡ true → TellsOver s ended (eqb s.deficit 0)
over_in_sums s ended on =
    record {
      value = (λ is. (on, none is), λ both. told both.1);
      right = λ sums sound is. tells_over s.books ended on (sym sums.deficit ∙ none is);
    }
  where
    none : eqb s.deficit 0 ≡ true → s.deficit ≡ 0
    none is = grind (arith, nat_tests)

    told : s.deficit ≡ 0 → eqb s.deficit 0 ≡ true
    told is = grind (arith, nat_tests)
