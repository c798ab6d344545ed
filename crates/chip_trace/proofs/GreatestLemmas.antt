-- Serves Interleaving.antt.
-- Where no next row is enabled, each vertex has used as many rows as in any partial interleaving.
use Rattle.chip_trace.proofs.Names.{◌≡◌, ℕ, ◌<◌, ◌≤◌, true, false, List, [], ◌∷◌, ◌++◌, length, ap, ◌∙◌}
use Rattle.chip_trace.proofs.Names.{arith, append_assoc, append-nil, length-append, Some, nat_tests, dite}
use Rattle.chip_trace.proofs.Names.{ℕ_discrete, TraceRow, ChipGame, is_row_enabled, Placed, rows_of, AreRowsEnabled, trace_of}
use Rattle.chip_trace.proofs.Names.{IsPartial, IsInterleaving, next_row, IsGreatestProgress}
use Rattle.chip_trace.proofs.PrefixLemmas.{same_beginning, longer_beginning, slice_get_seam}
use Rattle.chip_trace.proofs.RowLemmas.{rows_of-append, met_stays}

module _ (g : ChipGame) (traces : List (List TraceRow)) (xs : List Placed) (partial : IsPartial g traces xs)
    (settled : (v : ℕ) (row : TraceRow) → next_row traces xs v ≡ Some row → is_row_enabled g (rows_of xs) v row ≡ false) where
  -- what a list has used of each trace
  abbrev InOrder : List Placed → Type 0
  InOrder ys = (u : ℕ) → (left : List TraceRow) × (rows_of ys u ++ left ≡ trace_of traces u)

  -- after a prefix that goes no further anywhere, the next row goes no further either
  one_more : (before later : List Placed) (x : Placed) → InOrder (before ++ x ∷ later)
      → ((u : ℕ) → length (rows_of before u) ≤ length (rows_of xs u)) → is_row_enabled g (rows_of before) x.vertex x.row ≡ true
      → length (rows_of before x.vertex) < length (rows_of xs x.vertex)
  one_more before later x is within met =
      let v : ℕ = x.vertex in
      let left : InOrder before = λ u. (rows_of (x ∷ later) u ++ (is u).0, rw (rows_of-append, append_assoc) at (is u).1) in
      dite (ℕ_discrete (length (rows_of before v)) (length (rows_of xs v)))
      (λ e.
      let same = same_beginning (rows_of before v) (left v).0 (rows_of xs v) (partial.in_order v).0 (trace_of traces v)
      (left v).1 (partial.in_order v).1 e in
      let on = met_stays g (rows_of before) (rows_of xs) v x.row same (λ u. longer_beginning (rows_of before u) (left u).0
      (rows_of xs u) (partial.in_order u).0 (trace_of traces u) (left u).1 (partial.in_order u).1 (within u)) met in
      let next : rows_of before v ++ x.row ∷ (rows_of later v ++ (is v).0) ≡ trace_of traces v =
      (let a = (left v).1 in grind (arith, nat_tests)) in
      let seam = slice_get_seam (rows_of before v) x.row (rows_of later v ++ (is v).0) in
      let here : next_row traces xs v ≡ Some x.row = cc in
      let off = settled v x.row here in absurd (cc))
      (λ other. let l = within v in omega arith)

  -- no list goes further from a prefix that goes no further
  no_further : (before later : List Placed) → InOrder (before ++ later) → AreRowsEnabled g before later
      → ((u : ℕ) → length (rows_of before u) ≤ length (rows_of xs u)) → (u : ℕ)
      → length (rows_of (before ++ later) u) ≤ length (rows_of xs u)
  no_further before [] is met within u = rw (append-nil before) (within u)
  no_further before (x ∷ later) is met within u =
      let less = one_more before later x is within met.0 in
      rw append_assoc at (no_further (before ++ x ∷ []) later (rw append_assoc is) met.1
      (λ w. let a = within w in let b = rows_of-append before (x ∷ []) w in grind (arith, nat_tests, length-append)) u)

  -- so this is maximal progress
  pub settled_is_greatest : IsGreatestProgress g traces xs
  settled_is_greatest = record {
    partial = partial;
    greatest = λ ys other. no_further [] ys other.in_order other.met (λ u. omega arith);
  }

-- where some vertex has a row left after maximal progress, there is no interleaving
pub none_whole : (g : ChipGame) (traces : List (List TraceRow)) (xs : List Placed) → IsGreatestProgress g traces xs
    → (v : ℕ) → length (rows_of xs v) < length (trace_of traces v) →
    (ys : List Placed) → IsInterleaving g traces ys → ⊥
none_whole g traces xs all v left ys whole =
    let partial : IsPartial g traces ys = record {
      in_order = λ u. ([], append-nil (rows_of ys u) ∙ whole.whole u);
      met = whole.met;
    } in
    let l = all.greatest ys partial v in
    let e = ap length (whole.whole v) in
    omega arith
