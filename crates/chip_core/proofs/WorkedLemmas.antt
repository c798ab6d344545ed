-- Serves Worked.antt, WorkedClosing.antt, WorkedSoon.antt.
-- The worked runs: a detection order member by member, a game within the limits, the sink tried backwards, and the
-- triangle at rest.
use Rattle.chip_core.proofs.Names.{◌≡◌, ℕ, zero, suc, ◌<◌, [], ◌∷◌, get_or, Contains, refl, arith, inl, inr, ◌++◌, ◌≤◌}
use Rattle.chip_core.proofs.Names.{true, Some, true≢false, sym, ◌≢◌, List, ◌^◌, length, sum, ⊎_elim, TwoEngaged}
use Rattle.chip_core.proofs.Names.{whole_schedule, WholeSchedule, limit_of_two, stopped_by_limit, StoppedByLimit}
use Rattle.chip_core.proofs.Names.{played_on, StoppedBySeal, fed_triangle, fed_schedule, ClosedByTheEnd, edge_at}
use Rattle.chip_core.proofs.Names.{IsEdge, IsGraph, ReachesSink, Setting, End, Take, Ack, Settle, Fire, log_after, Log}
use Rattle.chip_core.proofs.Names.{part_in, tail_of, four_chips, sent_back, PairCloses, ThreeSteps, TrianglePlays}
use Rattle.chip_core.proofs.Names.{sink_alone, backwards, ThreeStretches, FiveStretches, BatchesAsk, AsksForEverything}
use Rattle.chip_core.proofs.Names.{is_passive, in_flight, same_edge, max_total, max_limit, IsGame, none-some}
use Rattle.chip_core.proofs.Names.{contains_nothing}
use Rattle.chip_core.proofs.ReadLemmas.{settled_is, closed_is}
use Rattle.chip_core.proofs.PlayingLemmas.{plays_out}
use Rattle.chip_core.proofs.ReachingLemmas.{run_legal}

-- a list of one vertex has no other
only_one : (u v : ℕ) → u < v → Contains (u ∷ []) v → ⊥
only_one u v l m = other m.0 m.1 m.2
  where
    other : (k : ℕ) → k < 1 → get_or (u ∷ []) k v ≡ v → ⊥
    other zero few is = (let same : u ≡ v = is in absurd (omega arith))
    other (suc k) few is = absurd (omega arith)

pub two_engaged : TwoEngaged
two_engaged = (
  record {
    tree = (
      (
        tt,
        contains_nothing 0,
        (
          4,
          record {
            parent = refl;
            is_edge = omega arith;
            head = refl;
            from_earlier = inl refl;
            owes = omega arith;
          },
        ),
      ),
      only_one 0 1 (omega arith),
      (
        0,
        record {
          parent = refl;
          is_edge = omega arith;
          head = refl;
          from_earlier = inr (0, omega arith, refl);
          owes = omega arith;
        },
      ),
    );
    others = elim [
      | zero ↦ (λ l out. absurd (out (1, omega arith, refl)))
      | suc zero ↦ (λ l out. absurd (out (0, omega arith, refl)))
      | suc (suc zero) ↦ (λ l out. record { no_parent = refl; passive = refl; nothing_owed = refl; no_deficit = refl })
      | suc (suc (suc v)) ↦ (λ l out. absurd (omega arith))
    ];
  },
  refl,
  refl,
)

abbrev no_chips : Setting
no_chips = fed_triangle (0 ∷ 0 ∷ 0 ∷ [])

fits : (e : ℕ) → (edge_at four_chips.game.graph e).tail < 2 → (edge_at four_chips.game.graph e).head < 3
    → (edge_at four_chips.game.graph e).mult ≡ 1 → (edge_at four_chips.game.graph e).tail ≢ (edge_at four_chips.game.graph e).head
    → IsEdge 3 2 (edge_at four_chips.game.graph e)
fits e tail head mult loop = record {
  tail_is_vertex = omega arith;
  head_is_vertex = head;
  some_chips = omega arith;
  few_chips = omega arith;
  no_loop = loop;
  not_from_sink = λ z. absurd (omega arith);
}

edges_fit : (e : ℕ) → e < 4 → IsEdge 3 2 (edge_at four_chips.game.graph e)
edges_fit zero l = fits 0 (omega arith) (omega arith) refl (λ z. absurd (omega arith))
edges_fit (suc zero) l = fits 1 (omega arith) (omega arith) refl (λ z. absurd (omega arith))
edges_fit (suc (suc zero)) l = fits 2 (omega arith) (omega arith) refl (λ z. absurd (omega arith))
edges_fit (suc (suc (suc zero))) l = fits 3 (omega arith) (omega arith) refl (λ z. absurd (omega arith))
edges_fit (suc (suc (suc (suc e)))) l = absurd (omega arith)

-- each vertex has an edge to the sink
all_reach : (v : ℕ) → v < 3 → ReachesSink four_chips.game.graph v
all_reach zero l = (1 ∷ [], (omega arith, refl, refl))
all_reach (suc zero) l = (3 ∷ [], (omega arith, refl, refl))
all_reach (suc (suc zero)) l = ([], refl)
all_reach (suc (suc (suc v))) l = absurd (omega arith)

triangle_is_graph : IsGraph four_chips.game.graph
triangle_is_graph = record {
  some_vertex = omega arith;
  few_vertices = omega arith;
  sink_is_vertex = omega arith;
  few_edges = omega arith;
  edges_fit = edges_fit;
  all_reach = all_reach;
}

-- so it is a game within the limits, with few chips and a low limit
triangle_is_game : (start : List ℕ) (chips limit : ℕ) → length start ≡ 3 → sum start ≡ chips → chips ≤ max_total
    → limit ≤ max_limit → IsGame (record { graph = four_chips.game.graph; start = start; limit = limit })
triangle_is_game start chips limit long is few low = record {
  graph_fits = triangle_is_graph;
  start_fits = long;
  few_chips = omega arith;
  low_limit = low;
}

pub none_halted : WholeSchedule
none_halted = (
  triangle_is_game four_chips.game.start 4 (2 ^ 40) refl refl (omega arith) (omega arith),
  (closed_is four_chips (log_after four_chips [] whole_schedule)).0 (refl, refl),
  refl,
  refl,
  refl,
)

pub by_limit : StoppedByLimit
by_limit = (
  triangle_is_game limit_of_two.game.start 5 2 refl refl (omega arith) (omega arith),
  (closed_is limit_of_two (log_after limit_of_two [] stopped_by_limit)).0 (refl, refl),
  refl,
  refl,
  refl,
  refl,
)

pub by_seal : StoppedBySeal
by_seal = ((closed_is four_chips (log_after four_chips [] played_on)).0 (refl, refl), refl, refl, refl, refl, refl)

pub by_the_end : ClosedByTheEnd
by_the_end = (
  triangle_is_game no_chips.game.start 0 (2 ^ 40) refl refl (omega arith) (omega arith),
  (settled_is no_chips (log_after no_chips [] fed_schedule)).0 refl,
  refl,
  refl,
  (closed_is no_chips (log_after no_chips (log_after no_chips [] fed_schedule) (End ∷ []))).0 (refl, refl),
  refl,
  refl,
)

-- there is one edge, and one vertex
only : (P : ℕ → Type 0) → P 0 → (e : ℕ) → e < 1 → P e
only P here zero l = here
only P here (suc e) l = absurd (omega arith)

asks_backwards : (log : Log) → AsksForEverything sink_alone log backwards
asks_backwards log = record {
  takes = only _ (inl (2, omega arith, refl));
  acks = only _ (inl (1, omega arith, refl));
  settles = only _ (inl (0, omega arith, refl));
  puts = only _ (inl (3, omega arith, refl));
  fires = only _ (inl (4, omega arith, refl));
  halts = only _ (inl (5, omega arith, refl));
  sends = λ e l. absurd (omega arith);
}

pub three_stretches : ThreeStretches
three_stretches = (
  asks_backwards,
  λ closed. (let some : 1 ≡ 0 = closed.1 0 (omega arith) refl in absurd (omega arith)),
  (
    refl,
    λ e l at. only (λ i. Rattle.chip_core.specs.Core.outstanding_on (Rattle.chip_core.specs.Core.out_in sink_alone
        (log_after sink_alone [] (backwards ++ (backwards ++ backwards))) i) ≡ 0) refl e l,
  ),
)

pub five_stretches : FiveStretches
five_stretches = (
  refl,
  record {
    firings = [];
    whole = record {
      sequence = tt;
      within = λ v. omega arith;
      ended = λ v can. absurd (can.not_sink (let l = can.is_vertex in omega arith));
    };
    enough = λ v l. omega arith;
  },
  refl,
  (
    [],
    backwards,
    _,
    refl,
    (λ told. asks_backwards _),
    (
      [],
      backwards,
      _,
      refl,
      (λ told. asks_backwards _),
      (
        [],
        backwards,
        _,
        refl,
        (λ told. asks_backwards _),
        ([], backwards, _, refl, (λ told. asks_backwards _), ([], backwards, _, refl, (λ told. asks_backwards _), tt)),
      ),
    ),
  ),
)

pub batches_ask : BatchesAsk
batches_ask = (
  λ told. (let more : ◌≡◌ {A = ℕ} 2 1 = told in absurd (omega arith)),
  λ asks. ⊎_elim (λ among. not_among among.0 among.1 among.2) (λ unmet. unmet refl) ((asks refl).fires 0 (omega arith)),
)
  where
    not_among : (k : ℕ) → k < 1 → get_or (Fire 0 3 ∷ []) k (Fire 0 1) ≡ Fire 0 1 → ⊥
    not_among zero few is = (let same : ◌≡◌ {A = ℕ} 3 1 = cc in absurd (omega arith))
    not_among (suc k) few is = absurd (omega arith)

pub three_steps : ThreeSteps
three_steps = (
  (((tt, record { may = refl; tells = refl }), record { may = refl; tells = refl }), record { may = refl; tells = refl }),
  (
    refl,
    λ e l at. only (λ i. Rattle.chip_core.specs.Core.outstanding_on (Rattle.chip_core.specs.Core.out_in sink_alone
        (log_after sink_alone [] (Take 0 ∷ Ack 0 ∷ Settle 0 ∷ [])) i) ≡ 0) refl e l,
  ),
  λ all. true≢false (sym all.1.tells),
  λ none. none (Take 0) record { may = refl; tells = refl },
)

pub triangle_plays : TrianglePlays
triangle_plays = (
  λ e. refl,
  plays_out four_chips none_halted.0 (omega arith) (log_after four_chips [] whole_schedule)
      (run_legal four_chips [] whole_schedule tt) (λ e. refl) none_halted.1,
  λ none. true≢false (none 1),
)

abbrev at_end : Log
at_end = log_after four_chips [] sent_back

all_passive : (v : ℕ) → v < 3 → is_passive four_chips v (part_in four_chips at_end v) ≡ true
all_passive zero l = refl
all_passive (suc zero) l = refl
all_passive (suc (suc zero)) l = refl
all_passive (suc (suc (suc v))) l = absurd (omega arith)

all_delivered : (e : ℕ) → e < 7 → in_flight four_chips at_end e ≡ []
all_delivered zero l = refl
all_delivered (suc zero) l = refl
all_delivered (suc (suc zero)) l = refl
all_delivered (suc (suc (suc zero))) l = refl
all_delivered (suc (suc (suc (suc zero)))) l = refl
all_delivered (suc (suc (suc (suc (suc zero))))) l = refl
all_delivered (suc (suc (suc (suc (suc (suc zero)))))) l = refl
all_delivered (suc (suc (suc (suc (suc (suc (suc e))))))) l = absurd (omega arith)

-- the root, which is no vertex and is last, has the level 0
abbrev level : ℕ → ℕ
level v = get_or (1 ∷ 2 ∷ 0 ∷ []) v 0

levels_fall : (v : ℕ) → v < 3 → (e : ℕ) → (part_in four_chips at_end v).parent ≡ Some e
    → (level (tail_of four_chips e) < level v) × (level v ≤ 2)
levels_fall zero l e is = rw (← (same_edge 4 e (part_in four_chips at_end 0).parent refl is))
    (omega arith, omega arith)
levels_fall (suc zero) l e is = rw (← (same_edge 0 e (part_in four_chips at_end 1).parent refl is))
    (omega arith, omega arith)
levels_fall (suc (suc zero)) l e is = absurd (none-some e is)
levels_fall (suc (suc (suc v))) l e is = absurd (omega arith)

pub pair_closes : PairCloses
pair_closes = (record { passive = all_passive; delivered = all_delivered; end = refl }, record { level = level; below = levels_fall }, refl, refl)
