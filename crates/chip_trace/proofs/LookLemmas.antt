-- Serves Interleaving.antt, Kept.antt.
-- What a visit to a row that is enabled finds.
use Rattle.chip_trace.proofs.Names.{◌≡◌, ℕ, ◌+◌, ◌-◌, ◌*◌, ◌^◌, ◌<◌, ◌≤◌, true, cond, List, [], ◌∷◌, length, get_or}
use Rattle.chip_trace.proofs.Names.{map, sym, ap, ◌∙◌, arith, eq-eqb, slice_get, slice_index, Option, Some, nat_lt}
use Rattle.chip_trace.proofs.Names.{and_from, nat_tests, TraceRow, Take, Fire, Multigraph, edge_at, ChipGame, fires}
use Rattle.chip_trace.proofs.Names.{takes_of, opening, messages, goes_into, next_message, has_count, RunnerState}
use Rattle.chip_trace.proofs.Names.{ReplayProgress, runner_at, rows_used, row_after, IsReplayKept, MayUse}

-- an edge into a vertex is an edge
pub into_is_edge : (G : Multigraph) (v e : ℕ) → v < G.vertices → goes_into G v e ≡ true
    → e < length G.edges + G.vertices
into_is_edge G v e is_vertex into = grind (arith, nat_tests)

-- no more messages were taken than rows used
pub takes_of-le : (e : ℕ) (rows : List TraceRow) → takes_of e rows ≤ length rows
takes_of-le e [] = omega arith
takes_of-le e (Take edge count ∷ rows) = let a = takes_of-le e rows in grind (arith, nat_tests)
takes_of-le e (Fire k ∷ rows) = let a = takes_of-le e rows in omega arith

module _ (g : ChipGame) (traces : List (List TraceRow)) (p : ReplayProgress) (v : ℕ) (kept : IsReplayKept g traces p) where
  -- the messages by what is kept of the tails
  pub kept_messages : (e : ℕ)
      → messages g (λ u. (runner_at p u).fires) e ≡ messages g (λ u. fires (rows_used traces p u)) e
  kept_messages e =
      ap (λ (ks : List ℕ). cond (nat_lt e (length g.graph.edges)) (map (λ k. k * (edge_at g.graph e).mult) ks)
      (opening (slice_index g.start (e - length g.graph.edges))))
      (ap (λ (r : RunnerState). r.fires) (kept.runners (edge_at g.graph e).tail))

  -- a take whose message is there
  pub may_take : (edge count message : ℕ) → v < g.graph.vertices → row_after traces p v ≡ Some (Take edge count)
      → (runner_at p v).used + 1 < 2 ^ 64 → count < 2 ^ 64 →
      goes_into g.graph v edge ≡ true
      → slice_get (messages g (λ u. (runner_at p u).fires) edge) (slice_index p.taken.items edge) ≡ Some message
      → message ≡ count →
      MayUse g traces p v (Take edge count)
  may_take edge count message is_vertex next room fits into found same =
      record {
        next = next;
        met = and_from (goes_into g.graph v edge) (has_count (next_message g (rows_used traces p) v edge) count) into
            (ap (λ (o : Option ℕ). has_count o count) is_next ∙ eq-eqb message count same);
        room = room;
        fits = (is_edge, few, chips, fits);
      }
    where
      is_next : next_message g (rows_used traces p) v edge ≡ Some message
      is_next =
          ap (λ (ms : List ℕ). slice_get ms (takes_of edge (rows_used traces p v))) (sym (kept_messages edge))
          ∙ ap (slice_get (messages g (λ u. (runner_at p u).fires) edge)) (sym (kept.taken v edge into)) ∙ found

      is_edge : edge < length p.taken.items
      is_edge = let a = into_is_edge g.graph v edge is_vertex into in let b = kept.taken_each in omega arith

      few : get_or p.taken.items edge 0 + 1 < 2 ^ 64
      few =
          let a = kept.taken v edge into in
          let b = takes_of-le edge (rows_used traces p v) in
          let c = ap (λ (r : RunnerState). r.used) (kept.runners v) in
          omega arith

      chips : (runner_at p v).chips + count < 2 ^ 128
      chips = let a = kept.few_chips v in omega arith
