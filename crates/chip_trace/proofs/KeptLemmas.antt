-- Serves Interleaving.antt, Kept.antt, Runner.antt.
-- What a replay keeps: at the start, and as a vertex uses a row that is enabled. Then one row fewer is left.
use Rattle.chip_trace.proofs.Names.{◌≡◌, ◌≢◌, ℕ, zero, suc, ◌+◌, ◌-◌, ◌*◌, ◌^◌, ◌<◌, ◌≤◌, true, List, [], ◌∷◌, ◌++◌}
use Rattle.chip_trace.proofs.Names.{length, take, set, get_or, replicate, refl, sym, ap, ◌∙◌, arith, append-nil}
use Rattle.chip_trace.proofs.Names.{length-append, dite, ℕ_discrete, get_or-set_same, get_or-set_other}
use Rattle.chip_trace.proofs.Names.{length-replicate, slice_get_within, length-set, and_parts, nat_tests, TraceRow}
use Rattle.chip_trace.proofs.Names.{Take, Fire, sum_below, Multigraph, ChipGame, sum_below_move, takes_of, goes_into}
use Rattle.chip_trace.proofs.Names.{Placed, rows_of, trace_of, with_firing, RunnerState, at_start, runner_of}
use Rattle.chip_trace.proofs.Names.{ReplayProgress, runner_at, rows_used, IsReplayReached, IsReplayKept, MayUse, UsesRow, rows_left}
use Rattle.chip_trace.proofs.PrefixLemmas.{take_slice_get}
use Rattle.chip_trace.proofs.RowLemmas.{fires-append, chips_taken-append, takes_of-append, rows_of-append}
use Rattle.chip_trace.proofs.RowLemmas.{firings-append, met_stays, AreMet-push}

-- an edge goes into one vertex
one_head : (G : Multigraph) (e u v : ℕ) → goes_into G u e ≡ true → goes_into G v e ≡ true → u ≡ v
one_head G e u v into goes = grind (arith, nat_tests)

-- how far a vertex has come after one more row
abbrev after : TraceRow → RunnerState → RunnerState
after (Take edge count) r = record { used = r.used + 1; fires = r.fires; chips = r.chips + count }
after (Fire k) r = record { used = r.used + 1; fires = r.fires ++ k ∷ []; chips = r.chips }

after_is : (row : TraceRow) (rows : List TraceRow) → after row (runner_of rows) ≡ runner_of (rows ++ row ∷ [])
after_is (Take edge count) rows = grind (arith, length-append, fires-append, chips_taken-append, append-nil)
after_is (Fire k) rows = grind (arith, length-append, fires-append, chips_taken-append)

moves : (v : ℕ) (row : TraceRow) (p q : ReplayProgress) → UsesRow v row p q
    → q.runners.items ≡ set p.runners.items v (after row (runner_at p v))
moves v (Take edge count) p q uses = uses.0
moves v (Fire k) p q uses = uses.0

-- v uses its next row, which is enabled
module _ (g : ChipGame) (traces : List (List TraceRow)) (p q : ReplayProgress) (v : ℕ) (row : TraceRow)
    (kept : IsReplayKept g traces p) (is_vertex : v < g.graph.vertices) (may : MayUse g traces p v row)
    (uses : UsesRow v row p q) where
  abbrev x : Placed
  x = record { vertex = v; row = row }

  here : runner_at q v ≡ runner_of (rows_used traces p v ++ row ∷ [])
  here =
      let moved = moves v row p q uses in let each = kept.runner_each in
      let new = get_or-set_same p.runners.items v (after row (runner_at p v)) at_start (omega arith) in
      let was = kept.runners v in let is = after_is row (rows_used traces p v) in cc

  there : (u : ℕ) → u ≢ v → runner_at q u ≡ runner_at p u
  there u other = ap (λ (rs : List RunnerState). get_or rs u at_start) (moves v row p q uses)
      ∙ get_or-set_other p.runners.items v u (after row (runner_at p v)) at_start other

  used : (runner_at q v).used ≡ suc (runner_at p v).used
  used = let new = ap (λ (r : RunnerState). r.used) here in let was = ap (λ (r : RunnerState). r.used) (kept.runners v)
      in omega (arith, length-append (rows_used traces p v) (row ∷ []))

  rows_at : (u : ℕ) → rows_used traces q u ≡ rows_used traces p u ++ rows_of (x ∷ []) u
  rows_at u = dite (ℕ_discrete u v)
      (λ same. let more = take_slice_get (trace_of traces v) (runner_at p v).used row may.next in
      let one = used in grind (arith, nat_tests))
      (λ other. let as_before = there u other in grind (arith, nat_tests, append-nil))

  takes : (u e : ℕ)
      → takes_of e (rows_used traces q u) ≡ takes_of e (rows_used traces p u) + takes_of e (rows_of (x ∷ []) u)
  takes u e = ap (takes_of e) (rows_at u) ∙ takes_of-append e (rows_used traces p u) (rows_of (x ∷ []) u)

  -- what is noted of edges and firings is kept too
  kept_more : (after row (runner_at p v)).chips ≤ (after row (runner_at p v)).used * 2 ^ 64
      → length q.taken.items ≡ length p.taken.items →
      ((u e : ℕ) → goes_into g.graph u e ≡ true → get_or q.taken.items e 0 ≡ takes_of e (rows_used traces q u)) →
      q.firings.items ≡ p.firings.items ++ with_firing v row [] → IsReplayKept g traces q
  kept_more few each taken fired = record {
    runner_each = ap length (moves v row p q uses) ∙ length-set p.runners.items v _ ∙ kept.runner_each;
    taken_each = each ∙ kept.taken_each;
    runners = λ u. let rows = rows_at u in dite (ℕ_discrete u v) (λ same. let new = here in grind (arith, nat_tests))
        (λ other. let as_before = there u other in let was = kept.runners u in grind (arith, nat_tests, append-nil));
    few_chips = λ u. dite (ℕ_discrete u v) (λ same. let new = here in let was = kept.runners v in
        let is = after_is row (rows_used traces p v) in grind arith)
        (λ other. rw (there u other) (kept.few_chips u));
    taken = taken;
    reached = (
      xs ++ x ∷ [],
      record {
        met = AreMet-push g [] xs x was.met
            (met_stays g (rows_used traces p) (rows_of xs) v row (sym (was.rows v))
            (λ u. ([], append-nil (rows_used traces p u) ∙ sym (was.rows u))) may.met);
        rows = λ u. rows_of-append xs (x ∷ []) u ∙ (λ i. was.rows u i ++ rows_of (x ∷ []) u) ∙ sym (rows_at u);
        fired = fired ∙ (λ i. was.fired i ++ with_firing v row []) ∙ sym (firings-append xs v row);
      },
    );
  }
    where
      xs : List Placed
      xs = kept.reached.0

      was : IsReplayReached g traces p xs
      was = kept.reached.1

  -- one row fewer is left
  pub left_after : rows_left traces q + 1 ≡ rows_left traces p
  left_after =
      let within = slice_get_within (trace_of traces v) (runner_at p v).used row may.next in
      let each = kept.runner_each in
      let same : length q.runners.items ≡ length p.runners.items = ap length (moves v row p q uses)
      ∙ length-set p.runners.items v (after row (runner_at p v)) in
      let less = sum_below_move (length p.runners.items) (λ u. length (trace_of traces u) - (runner_at q u).used)
      (λ u. length (trace_of traces u) - (runner_at p u).used) v (omega arith)
      (λ u l other. ap (λ (r : RunnerState). length (trace_of traces u) - r.used) (there u other)) in
      let all : rows_left traces q ≡ sum_below (length p.runners.items)
      (λ u. length (trace_of traces u) - (runner_at q u).used) =
      ap (λ (n : ℕ). sum_below n (λ u. length (trace_of traces u) - (runner_at q u).used)) same in
      let one = used in
      omega arith

-- a row that may be used is kept well
pub kept_after : (g : ChipGame) (traces : List (List TraceRow)) (p q : ReplayProgress) (v : ℕ) (row : TraceRow)
    → IsReplayKept g traces p → v < g.graph.vertices → MayUse g traces p v row → UsesRow v row p q → IsReplayKept g traces q
kept_after g traces p q v (Take edge count) kept is_vertex may uses =
    kept_more g traces p q v (Take edge count) kept is_vertex may uses
    (let few = kept.few_chips v in let fits = may.fits.3 in omega arith)
    (ap length uses.1 ∙ length-set p.taken.items edge _)
    (λ u e into.
    let was = kept.taken u e into in let more = takes g traces p q v (Take edge count) kept is_vertex may uses u e in
    let took = uses.1 in let is_edge = may.fits.0 in
    dite (ℕ_discrete e edge)
    (λ same.
    let mine = one_head g.graph e u v into
    (rw same ((and_parts (goes_into g.graph v edge) _ may.met).0)) in
    let new = get_or-set_same p.taken.items edge (get_or p.taken.items edge 0 + 1) 0 is_edge in
    grind (arith, nat_tests))
    (λ other.
    let old = get_or-set_other p.taken.items edge e (get_or p.taken.items edge 0 + 1) 0 other in
    grind (arith, nat_tests)))
    (uses.2 ∙ sym (append-nil p.firings.items))
kept_after g traces p q v (Fire k) kept is_vertex may uses =
    kept_more g traces p q v (Fire k) kept is_vertex may uses (let few = kept.few_chips v in omega arith)
    (ap length uses.1)
    (λ u e into.
    let was = kept.taken u e into in let more = takes g traces p q v (Fire k) kept is_vertex may uses u e in
    let took = uses.1 in grind (arith, nat_tests))
    uses.2

-- before the first row
pub kept_start : (g : ChipGame) (traces : List (List TraceRow)) (p : ReplayProgress)
    → p.runners.items ≡ replicate g.graph.vertices at_start →
    p.taken.items ≡ replicate (length g.graph.edges + g.graph.vertices) 0 → p.firings.items ≡ [] → IsReplayKept g traces p
kept_start g traces p start none fired =
    record {
      runner_each = ap length start ∙ length-replicate g.graph.vertices at_start;
      taken_each = ap length none ∙ length-replicate (length g.graph.edges + g.graph.vertices) 0;
      runners = λ v. is_start v ∙ sym (ap runner_of (no_rows v));
      few_chips = λ v. rw (is_start v) (omega arith);
      taken = λ v e into. ap (λ (ts : List ℕ). get_or ts e 0) none
          ∙ get_or_same (length g.graph.edges + g.graph.vertices) 0 e ∙ sym (ap (takes_of e) (no_rows v));
      reached = ([], record { met = tt; rows = λ v. sym (no_rows v); fired = fired });
    }
  where
    get_or_same : {A : Type 0} (n : ℕ) (x : A) (i : ℕ) → get_or (replicate n x) i x ≡ x
    get_or_same zero x i = refl
    get_or_same (suc n) x zero = refl
    get_or_same (suc n) x (suc i) = get_or_same n x i

    is_start : (v : ℕ) → runner_at p v ≡ at_start
    is_start v = ap (λ (rs : List RunnerState). get_or rs v at_start) start ∙ get_or_same g.graph.vertices at_start v

    no_rows : (v : ℕ) → rows_used traces p v ≡ []
    no_rows v = ap (λ (r : RunnerState). take r.used (trace_of traces v)) (is_start v)
