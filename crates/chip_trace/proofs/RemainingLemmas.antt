-- Serves Left.antt, Kept.antt.
-- What is left, by what is kept: it is what the used rows leave, and it grows edge by edge and vertex by vertex.
use Rattle.chip_trace.proofs.Names.{◌≡◌, ℕ, ◌+◌, ◌<◌, ◌≤◌, ◌==◌, nat_le, not, ◌&&◌, Bool, true, false, List, [], ◌∷◌}
use Rattle.chip_trace.proofs.Names.{◌++◌, map, sym, ap, ◌∙◌, arith, add-one, append-nil, nat_tests, lt-ltb, le-ltb}
use Rattle.chip_trace.proofs.Names.{map-append, TraceRow, filter_below, Multigraph, degree, edge_head, ChipGame, Messages}
use Rattle.chip_trace.proofs.Names.{fires, chips_taken, takes_of, goes_into, messages_left, chips_held, legal_left}
use Rattle.chip_trace.proofs.Names.{left_of, left_after, RunnerState, ReplayProgress, rows_used, IsReplayKept, kept_fires}
use Rattle.chip_trace.proofs.Names.{kept_chips, kept_taken, kept_edges, kept_vertices, kept_left}

-- an edge goes into its head
into_head : (G : Multigraph) (e : ℕ) → goes_into G (edge_head G e) e ≡ true
into_head G e = grind (arith, nat_tests)

module _ (g : ChipGame) (traces : List (List TraceRow)) (p : ReplayProgress) (kept : IsReplayKept g traces p) where
  same_fires : ◌≡◌ {A = ℕ → List ℕ} (kept_fires p) (λ v. fires (rows_used traces p v))
  same_fires = λ i v. ap (λ (r : RunnerState). r.fires) (kept.runners v) i

  same_chips : ◌≡◌ {A = ℕ → ℕ} (kept_chips p) (λ v. chips_taken (rows_used traces p v))
  same_chips = λ i v. ap (λ (r : RunnerState). r.chips) (kept.runners v) i

  same_taken : ◌≡◌ {A = ℕ → ℕ} (kept_taken p) (λ e. takes_of e (rows_used traces p (edge_head g.graph e)))
  same_taken = λ i e. kept.taken (edge_head g.graph e) e (into_head g.graph e) i

  pub left_is : kept_left g p ≡ left_after g (rows_used traces p)
  left_is = λ i. left_of g (same_fires i) (same_chips i) (same_taken i)

-- ---- the list that grows

-- a number that passes the test
one_more : {A : Type 0} (f : ℕ → A) (test : ℕ → Bool) (n : ℕ) → test n ≡ true
    → map f (filter_below test (n + 1)) ≡ map f (filter_below test n) ++ f n ∷ []
one_more f test n passes =
    let more = map-append f (filter_below test n) (n ∷ []) in rw (add-one n) (grind (arith, nat_tests))

-- a number that does not
no_more : {A : Type 0} (f : ℕ → A) (test : ℕ → Bool) (n : ℕ) → test n ≡ false
    → map f (filter_below test (n + 1)) ≡ map f (filter_below test n)
no_more f test n fails =
    let same = append-nil (filter_below test n) in rw (add-one n) (grind (arith, nat_tests))

module _ (g : ChipGame) (p : ReplayProgress) (n : ℕ) where
  -- an edge with messages left
  pub edge_more : (count : ℕ) → count ≡ messages_left g (kept_fires p) (kept_taken p) n → 0 < count
      → kept_edges g p (n + 1) ≡ kept_edges g p n ++ Messages n count ∷ []
  edge_more count is some =
      one_more (λ e. Messages e (messages_left g (kept_fires p) (kept_taken p) e)) _ n
      (lt-ltb 0 (messages_left g (kept_fires p) (kept_taken p) n) (omega arith))
      ∙ ap (λ (c : ℕ). kept_edges g p n ++ Messages n c ∷ []) (sym is)

  -- an edge with none
  pub edge_same : (count : ℕ) → count ≡ messages_left g (kept_fires p) (kept_taken p) n → count ≤ 0
      → kept_edges g p (n + 1) ≡ kept_edges g p n
  edge_same count is none =
      no_more (λ e. Messages e (messages_left g (kept_fires p) (kept_taken p) e)) _ n
      (le-ltb 0 (messages_left g (kept_fires p) (kept_taken p) n) (omega arith))

  abbrev pub legal : Bool
  legal = not (n == g.graph.sink) && nat_le (degree g.graph n) (chips_held g (kept_fires p) (kept_chips p) n)

  -- a legal vertex
  pub vertex_more : legal ≡ true
      → kept_vertices g p (n + 1) ≡ kept_vertices g p n ++ legal_left g (kept_fires p) n ∷ []
  vertex_more = one_more (legal_left g (kept_fires p)) _ n

  -- a vertex that is not
  pub vertex_same : legal ≡ false → kept_vertices g p (n + 1) ≡ kept_vertices g p n
  vertex_same = no_more (legal_left g (kept_fires p)) _ n
