-- Serves Kept.antt, Progress.antt, Interleaving.antt.
-- What follows once no next row is enabled: an interleaving and what it leaves, or a vertex to blame.
use Rattle.chip_trace.proofs.Names.{◌≡◌, ℕ, ◌<◌, ◌≤◌, List, [], ◌++◌, length, drop, sym, ap, ◌∙◌, arith, inl, inr}
use Rattle.chip_trace.proofs.Names.{subst, true, slice_get, Some, None, ◌⊎◌, dite, dec_lt, take_all, take-append-drop}
use Rattle.chip_trace.proofs.Names.{get_or_past, slice_get_within, TraceRow, ChipGame, is_row_enabled, Placed, rows_of}
use Rattle.chip_trace.proofs.Names.{trace_of, IsPartial, is_wrong, next_row, HasWrongRow, HasUnusedRow, IsLeast}
use Rattle.chip_trace.proofs.Names.{IsBlamed, IsGreatestProgress, IsStuck, RunnerState, ReplayProgress, Replayed}
use Rattle.chip_trace.proofs.Names.{left_after, IsReplayed, runner_at, rows_used, row_after, IsReplayReached, IsReplayKept}
use Rattle.chip_trace.proofs.Names.{IsReplayBlocked, IsWrongAt, IsUnusedAt, NoneBelow, IsToBlame, kept_left}
use Rattle.chip_trace.proofs.GreatestLemmas.{settled_is_greatest, none_whole}
use Rattle.chip_trace.proofs.RemainingLemmas.{left_is}

module _ (g : ChipGame) (traces : List (List TraceRow)) (p : ReplayProgress) (kept : IsReplayKept g traces p)
    (each : length traces ≡ g.graph.vertices) where
  abbrev xs : List Placed
  xs = kept.reached.0

  abbrev was : IsReplayReached g traces p xs
  was = kept.reached.1

  same_rows : ◌≡◌ {A = ℕ → List TraceRow} (rows_of xs) (rows_used traces p)
  same_rows = λ i v. was.rows v i

  same_length : (v : ℕ) → length (rows_of xs v) ≡ (runner_at p v).used
  same_length v = ap length (was.rows v) ∙ sym (ap (λ (r : RunnerState). r.used) (kept.runners v))

  same_next : (v : ℕ) → next_row traces xs v ≡ row_after traces p v
  same_next v = ap (slice_get (trace_of traces v)) (same_length v)

  partial : IsPartial g traces xs
  partial = record {
    in_order = λ v. (
      drop (runner_at p v).used (trace_of traces v),
      ap
          (λ (rows : List TraceRow). rows ++ drop (runner_at p v).used (trace_of traces v)) (was.rows v)
          ∙ take-append-drop (runner_at p v).used (trace_of traces v),
    );
    met = was.met;
  }

  -- beyond the vertices there are no rows
  no_trace : (v : ℕ) → g.graph.vertices ≤ v → trace_of traces v ≡ []
  no_trace v l = get_or_past traces v [] (omega arith)

  unused_is_vertex : (v : ℕ) → IsUnusedAt traces p v → v < g.graph.vertices
  unused_is_vertex v some = dite (dec_lt v g.graph.vertices) (λ l. l)
      (λ beyond. let e = ap length (no_trace v (omega arith)) in absurd (omega arith))

  next_is_unused : (v : ℕ) (row : TraceRow) → row_after traces p v ≡ Some row → IsUnusedAt traces p v
  next_is_unused v row next = slice_get_within (trace_of traces v) (runner_at p v).used row next

  same_wrong : ◌≡◌ {A = ℕ → Type 0} (IsWrongAt g traces p) (HasWrongRow g traces xs)
  same_wrong = sym (λ i v. (row : TraceRow) × (same_next v i ≡ Some row) × (is_wrong g (same_rows i) v row ≡ true))

  same_unused : ◌≡◌ {A = ℕ → Type 0} (IsUnusedAt traces p) (HasUnusedRow traces xs)
  same_unused = sym (λ i v. same_length v i < length (trace_of traces v))

  module _ (none : IsToBlame g traces p None) where
    all_used : (v : ℕ) → rows_used traces p v ≡ trace_of traces v
    all_used v = take_all (runner_at p v).used (trace_of traces v)
        (dite (dec_lt (runner_at p v).used (length (trace_of traces v)))
        (λ some. absurd (none v (unused_is_vertex v some) some)) (λ all. omega arith))

    -- all rows are used, and this is what they leave
    pub whole : (replayed : Replayed) → replayed.firings.items ≡ p.firings.items
        → replayed.left.items ≡ kept_left g p → IsReplayed g traces replayed
    whole replayed firings left = record {
      firings = (xs, record { whole = λ v. was.rows v ∙ all_used v; met = was.met }, firings ∙ was.fired);
      left = left ∙ left_is g traces p kept ∙ (λ i. left_after g (λ v. all_used v i));
    }

  module _ (settled : IsReplayBlocked g traces p) where
    greatest : IsGreatestProgress g traces xs
    greatest =
        settled_is_greatest g traces xs partial
        (λ v row next.
        let here : row_after traces p v ≡ Some row = sym (same_next v) ∙ next in
        ap (λ (used : ℕ → List TraceRow). is_row_enabled g used v row) same_rows
        ∙ settled v (unused_is_vertex v (next_is_unused v row here)) row here)

    -- no row but the used ones can be used, and this vertex is to blame
    pub stuck : (v : ℕ) → IsToBlame g traces p (Some v) → IsStuck g traces v (runner_at p v).used
    stuck v blame = by_blame blame.1
      where
        at : IsUnusedAt traces p v → IsBlamed g traces xs v → IsStuck g traces v (runner_at p v).used
        at some blamed = record {
          none = none_whole g traces xs greatest v (let e = same_length v in omega arith);
          blamed = (xs, greatest, same_length v, blamed);
        }

        by_blame : (IsLeast (IsWrongAt g traces p) v
            ⊎ (NoneBelow g.graph.vertices (IsWrongAt g traces p) × IsLeast (IsUnusedAt traces p) v))
            → IsStuck g traces v (runner_at p v).used
        by_blame (inl wrong) = at (next_is_unused v wrong.here.0 wrong.here.1)
            (inl (subst (λ (P : ℕ → Type 0). IsLeast P v) same_wrong wrong))
        by_blame (inr waits) =
            at waits.1.here
            (inr (
              (λ u other. let there = subst (λ (P : ℕ → Type 0). P u) (sym same_wrong) other in
                  waits.0 u (unused_is_vertex u (next_is_unused u there.0 there.1)) there),
              subst (λ (P : ℕ → Type 0). IsLeast P v) same_unused waits.1,
            ))
