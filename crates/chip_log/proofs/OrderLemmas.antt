-- Serves Order.antt.
-- Where an order ends.
use Rattle.chip_log.proofs.Names.{◌≡◌, ℕ, ◌+◌, ◌≤◌, ◌<◌, false, eqb, List, [], ◌∷◌, ◌++◌, length, get_or, refl, ap, sym, ◌∙◌}
use Rattle.chip_log.proofs.Names.{arith, cond, append-nil, ◌^◌, take, drop, length-append, length-take, drop_more, take_more}
use Rattle.chip_log.proofs.Names.{append_cancel_left, nil_from_length, drop_all, All-get_or, Some, None, steps_of, HasEnds}
use Rattle.chip_log.proofs.Names.{nat_tests, is_enabled, IsInterleaving, IsWellFormed, IsProgress, IsMaximal, IsStuck}
use Rattle.chip_log.proofs.Names.{is_there, IsReady, Reads, IsOrderKept, OrderGoesOn, IsOrderBlocked, IsFirstLeft, FitsRow}
use Rattle.chip_log.proofs.Names.{queue_of, total, Order, Sizes, LogRow, Step, In}
use Rattle.chip_log.proofs.CountLemmas.{steps_of-append}
use Rattle.chip_log.proofs.ProgressLemmas.{rows, whole_progress, first_rows, next_own, Joins, progress_of, joined}
use Rattle.chip_log.proofs.PastLemmas.{are_met_second}
use Rattle.chip_log.proofs.LeftLemmas.{one_number}
use Rattle.chip_log.proofs.QueuesLemmas.{total_le}
use Rattle.chip_log.proofs.OrderingLemmas.{read_more, read_ready, read_keeps}

module _ (sizes : Sizes) (log : List LogRow) (o : Order) (ready : IsReady sizes o) (kept : IsOrderKept log [] o) where
  own : (p : ℕ) → steps_of p o.done.items ++ queue_of o.queues p ≡ steps_of p log
  own p = rw (append-nil (queue_of o.queues p)) at (kept.own p)

  all_done : (p : ℕ) → queue_of o.queues p ≡ [] → steps_of p o.done.items ≡ steps_of p log
  all_done p none = rw (none, append-nil) at (own p)

  pub whole_order : IsFirstLeft o None → IsInterleaving log o.done.items
  whole_order none = record { whole = λ p. all_done p (none p); met = kept.met }

  module _ (settled : IsOrderBlocked o) where
    not_met : (p : ℕ) (step : Step) → is_there o.flight step ≡ false → is_enabled log o.done.items p step ≡ false
    not_met p (In s) off = let b = ready.flight s in grind (arith, nat_tests)
    not_met p _ off = absurd (cc off)

    pub stuck_order : (p : ℕ) → IsFirstLeft o (Some p)
        → IsStuck log p (length (steps_of p o.done.items))
    stuck_order p left = record {
      used = o.done.items;
      greatest = record {
        progress = record { left = queue_of o.queues; own = own; met = kept.met };
        stuck = λ q step later next. not_met q step (settled q step (later, next));
      };
      place = refl;
      some = let a = ap length (own p) in omega (arith, length-append {A = Step});
      least = λ q less. all_done q (left.1 q less);
    }

-- ---- one more row

-- so far n rows were read
pub record IsSoFar (sizes : Sizes) (log : List LogRow) (n : ℕ) (o : Order) : Type 0 where
  pub ready : IsReady sizes o
  pub few : length o.done.items + total o.queues ≤ n
  pub kept : IsOrderKept log (drop n log) o

pub row_fits : (sizes : Sizes) (log : List LogRow) → IsWellFormed sizes log → (n : ℕ) (d : LogRow) → n < length log
    → FitsRow sizes (get_or log n d)
row_fits sizes log well n d l = All-get_or (FitsRow sizes) log n d l well.fits

module _ (sizes : Sizes) (log : List LogRow) (well : IsWellFormed sizes log) (short : length log < 2 ^ 32) (n : ℕ) (d : LogRow)
    (l : n < length log) (old new : Order) (was : IsSoFar sizes log n old) (reads : Reads (get_or log n d) old new) where
  room : length old.done.items + total old.queues + 1 < 2 ^ 32
  room = omega arith

  pub now_ready : IsReady sizes new
  now_ready = read_ready sizes (get_or log n d) old new was.ready reads (row_fits sizes log well n d l) room

  pub read_on : (later : Order) → OrderGoesOn sizes new later → IsSoFar sizes log (n + 1) later
  read_on later on = record {
    ready = on.ready;
    few = omega (arith, read_more sizes (get_or log n d) old new was.ready reads (row_fits sizes log well n d l) room);
    kept = on.keeps log (drop (n + 1) log) well.sent
        (read_keeps sizes (get_or log n d) old new was.ready reads (row_fits sizes log well n d l) room log
        (drop (n + 1) log) (rw (drop_more log n d l) at was.kept));
  }

pub none_read : (sizes : Sizes) (log : List LogRow) (o : Order) → IsReady sizes o → o.done.items ≡ [] → total o.queues ≡ 0
    → IsSoFar sizes log 0 o
none_read sizes log o ready none zero_left = record {
  ready = ready;
  few = rw (none, zero_left) (omega arith);
  kept = record {
    own = λ p. rw (none, nil_from_length (queue_of o.queues p) (omega (arith, total_le)));
    met = rw none tt;
  };
}

pub all_read : (sizes : Sizes) (log : List LogRow) → IsWellFormed sizes log → (n : ℕ) → length log ≤ n
    → (o later : Order) → IsSoFar sizes log n o → OrderGoesOn sizes o later → IsOrderKept log [] later
all_read sizes log well n past o later was on =
    rw (drop_all n log past) at (on.keeps log (drop n log) well.sent was.kept)

-- ---- how many rows a process has

pub count_next : (p : ℕ) (log : List LogRow) (n : ℕ) (d : LogRow) → n < length log
    → length (steps_of p (take (n + 1) log)) ≡ length (steps_of p (take n log)) + cond (eqb (get_or log n d).process p) 1 0
count_next p log n d l = rw (take_more log n d l, steps_of-append, length-append) (grind (arith, nat_tests))

-- ---- maximal progress is the greatest

module _ (log : List LogRow) (ends : HasEnds log) (used : List LogRow) (most : IsMaximal log used) where
  -- it does not go on
  none_joined : (other more : List LogRow) → IsProgress log other → Joins log ends used most.progress other (used ++ more)
      → (p : ℕ) → rows p other ≤ rows p used
  none_joined other [] is made p = omega (
    arith,
    ap length (rw append-nil at (made.own p)),
    ap length (first_rows log other is p),
    length-take {A = Step},
  )
  none_joined other (x ∷ more) is made p =
      let now = progress_of log ends used most.progress other (used ++ x ∷ more) made in
      let q = x.process in
      let behind = steps_of q more ++ now.left q in
      let a = append_cancel_left (steps_of q used) (most.progress.left q) (x.step ∷ behind)
      (most.progress.own q ∙ sym (next_own log used more x now)) in
      let b = most.stuck q x.step behind a in
      let c = (are_met_second log [] used (x ∷ more) now.met).0 in
      absurd (cc)

  pub maximal_progress : (other : List LogRow) → IsProgress log other → (p : ℕ) → rows p other ≤ rows p used
  maximal_progress other is = let on = joined log ends used most.progress other is in none_joined other on.0 is on.1

module _ (log : List LogRow) (ends : HasEnds log) where
  pub no_order : (p i : ℕ) (xs : List LogRow) → IsStuck log p i → IsInterleaving log xs → ⊥
  no_order p i xs stuck is =
      omega (arith, maximal_progress log ends stuck.used stuck.greatest xs (whole_progress log xs is) p, ap length (is.whole p))

  same_length : (p i q j : ℕ) → (one : IsStuck log p i) → (two : IsStuck log q j)
      → (r : ℕ) → length (steps_of r one.used) ≡ length (steps_of r two.used)
  same_length p i q j one two r =
      let a = maximal_progress log ends one.used one.greatest two.used two.greatest.progress r in
      let b = maximal_progress log ends two.used two.greatest one.used one.greatest.progress r in
      omega arith

  not_less : (p i q j : ℕ) → IsStuck log p i → IsStuck log q j → p < q → ⊥
  not_less p i q j one two less = omega (arith, same_length p i q j one two p, ap length (two.least p less))

  pub one_stuck : (p i q j : ℕ) → IsStuck log p i → IsStuck log q j → (p ≡ q) × (i ≡ j)
  one_stuck p i q j one two = (same, place)
    where
      same : p ≡ q
      same = one_number p q (not_less p i q j one two) (not_less q j p i two one)

      place : i ≡ j
      place = let a = same_length p i q j one two q in let b = rw same at one.place in omega arith
