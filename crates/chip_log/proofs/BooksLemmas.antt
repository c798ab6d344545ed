-- Serves Books.antt, Past.antt.
-- The books of a past, row by row.
use Rattle.chip_log.proofs.Names.{◌≡◌, ◌≢◌, ℕ, ◌+◌, ◌≤◌, ◌<◌, Bool, true, false, eqb, List, [], ◌∷◌, ◌++◌, length}
use Rattle.chip_log.proofs.Names.{refl, ap, arith, ltb-true, ltb-false}
use Rattle.chip_log.proofs.Names.{nil_from_length, ◌||◌, nat_lt, said_before, Passes, rows_at, said_at}
use Rattle.chip_log.proofs.Names.{is_message_needed, is_needed, KeepsRow, steps_of, is_out, outs, ins, HasEnds, nat_tests}
use Rattle.chip_log.proofs.Names.{is_in, AreInFlight, AreKept, AreBooksOf, TallyState, count, Books, LogRow, Step}
use Rattle.chip_log.proofs.Names.{Out, Stream}
use Rattle.chip_log.proofs.CountLemmas.{rows-append, same_stream_is}
use Rattle.chip_log.proofs.MetLemmas.{same_self}
use Rattle.chip_log.proofs.PastLemmas.{IsSplit, put_behind, keep_claimer, keep_other, keep_message}
use Rattle.chip_log.proofs.QueuesLemmas.{set_at}
use Rattle.chip_log.specs.declared.books.Said.TheVariants as said

-- ---- what is in transit

-- a step is made
pub make_flight : (pre : List LogRow) (x : LogRow) (old new : TallyState) → AreInFlight pre old → Passes x.step new old
    → AreInFlight (pre ++ x ∷ []) new
make_flight pre x old new was made = λ s.
    let c = rows-append (is_out s) pre (x ∷ []) in let d = rows-append (is_in s) pre (x ∷ []) in
    omega (arith, was s, made.counts s)

-- and undone
pub pass_flight : (pre : List LogRow) (x : LogRow) (old new : TallyState) → AreInFlight (pre ++ x ∷ []) old
    → Passes x.step old new → AreInFlight pre new
pass_flight pre x old new was passed = λ s.
    let c = rows-append (is_out s) pre (x ∷ []) in let d = rows-append (is_in s) pre (x ∷ []) in
    omega (arith, was s, passed.counts s)

-- ---- rows that are kept

pub kept_more : (kept : List LogRow) (x : LogRow) (old new : Books) → x.process < length old.said.items
    → x.process < length old.rows.items → AreKept kept old → KeepsRow true x old new → AreKept (x ∷ kept) new
kept_more kept x old new within counted was keeps = record {
  taken = λ s. let a = keeps.taken s in let b = was.taken s in omega arith;
  sent = λ s. let a = keeps.sent s in let b = was.sent s in omega arith;
  rows = λ q.
      let b = set_at old.rows.items x.process q (rows_at old x.process + 1) 0 counted in let c = was.rows q in
      rw keeps.rows (grind (arith, nat_tests));
  said = λ q.
      let b = set_at old.said.items x.process q (said_before x.step (said_at old x.process)) said.Unsaid within in
      let c = was.said q in rw keeps.said (grind (arith, nat_tests));
}

kept_same : (kept : List LogRow) (x : LogRow) (old new : Books) → AreKept kept old → KeepsRow false x old new → AreKept kept new
kept_same kept x old new was keeps = record {
  taken = λ s. let a = keeps.taken s in let b = was.taken s in omega arith;
  sent = λ s. let a = keeps.sent s in let b = was.sent s in omega arith;
  rows = rw keeps.rows was.rows;
  said = rw keeps.said was.said;
}

-- ---- reading a row

module _ (log : List LogRow) (ends : HasEnds log) (p i : ℕ) (pre kept : List LogRow) (x : LogRow) (old new : Books)
    (claimer : old.claimer ≡ p) (within : x.process < length old.said.items) (counted : x.process < length old.rows.items)
    (split : IsSplit log ends p i (pre ++ x ∷ []) kept)
    (was : AreBooksOf (pre ++ x ∷ []) kept old) (passes : Passes x.step old.flight new.flight) where
  flight : AreInFlight pre new.flight
  flight = pass_flight pre x old.flight new.flight was.flight passes

  -- the rows that are kept then
  abbrev Found : Type 0
  Found = (later : List LogRow)
      × (IsSplit log ends p i pre later × AreBooksOf pre later new × (length later ≤ length kept + 1))

  kept_row : IsSplit log ends p i pre (x ∷ kept) → KeepsRow true x old new → Found
  kept_row later keeps = (
    x ∷ kept,
    (later, record { flight = flight; keeps = kept_more kept x old new within counted was.keeps keeps }, omega arith),
  )

  -- ---- the row is in the past, or not

  message_true : (step : Step) → is_message_needed new.flight old.taken step ≡ true
      → (s : Stream) × (is_out s step ≡ true) × (outs s pre < ins s pre + ins s kept)
  message_true (Out s) is =
      let a = ltb-true (count new.flight s) (count old.taken s) is in
      (s, same_self s, omega (arith, flight s, was.keeps.taken s))
  message_true _ is = absurd (cc is)

  message_false : (step : Step) → is_message_needed new.flight old.taken step ≡ false
      → (s : Stream) → is_out s step ≡ true → ins s pre + ins s kept ≤ outs s pre
  message_false (Out t) is = λ s same. rw (same_stream_is s t same)
      (let a = ltb-false (count new.flight t) (count old.taken t) is in omega (arith, flight t, was.keeps.taken t))
  message_false _ is = λ s same. absurd (cc same)

  pub looked : KeepsRow (is_needed x new.flight old) x old new → Found
  looked keeps = by_claimer (eqb x.process old.claimer) refl keeps
    where
      by_message : (c : Bool) → x.process ≢ p → steps_of x.process kept ≡ []
          → is_message_needed new.flight old.taken x.step ≡ c → KeepsRow c x old new → Found
      by_message true ne none is keeps =
          let found = message_true x.step is in
          kept_row (keep_message log ends p i pre kept x split none found.0 found.1 found.2) keeps
      by_message false ne none is keeps = (
        kept,
        (
          put_behind log ends p i pre kept x split none ne (message_false x.step is),
          record { flight = flight; keeps = kept_same kept x old new was.keeps keeps },
          omega arith,
        ),
      )

      by_rows : (b : Bool) → x.process ≢ p → nat_lt 0 (rows_at old x.process) ≡ b
          → KeepsRow (b || is_message_needed new.flight old.taken x.step) x old new → Found
      by_rows true ne is keeps = kept_row (keep_other log ends p i pre kept x split (λ none.
          let a = ltb-true 0 (rows_at old x.process) is in let b = was.keeps.rows x.process in
          absurd (omega (arith, ap length none)))) keeps
      by_rows false ne is keeps = by_message (is_message_needed new.flight old.taken x.step) ne
          (nil_from_length (steps_of x.process kept)
          (let a = ltb-false 0 (rows_at old x.process) is in let b = was.keeps.rows x.process in omega arith)) refl keeps

      by_claimer : (a : Bool) → eqb x.process old.claimer ≡ a
          → KeepsRow (a || (nat_lt 0 (rows_at old x.process) || is_message_needed new.flight old.taken x.step)) x old new → Found
      by_claimer true is keeps = kept_row
          (keep_claimer log ends p i pre kept x split (grind (arith, nat_tests))) keeps
      by_claimer false is keeps = by_rows (nat_lt 0 (rows_at old x.process)) (λ e. grind (arith, nat_tests)) refl keeps
