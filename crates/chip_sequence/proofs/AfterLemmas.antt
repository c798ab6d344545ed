-- Serves Counted.antt.
-- Configurations by counts: what flows in along a list of edges, that it fits 128 bits, and that no chip is lost.
use Rattle.chip_sequence.proofs.Names.{◌≡◌, ℕ, ◌+◌, ◌*◌, ◌^◌, ◌<◌, ◌≤◌, eqb, List, length, take, sum, sum_by, get_or}
use Rattle.chip_sequence.proofs.Names.{slice_index, sym, ap, ◌∙◌, arith, mul-le-mul, sum_by_more_le, max_total}
use Rattle.chip_sequence.proofs.Names.{sum_below, Multigraph, IsGraph, edge_at, edges_in, ChipGame, IsGame, picked_sum}
use Rattle.chip_sequence.proofs.Names.{sum_below_ext, sum_below_term, All-picked, inflow, position_by_counts}
use Rattle.chip_sequence.proofs.Names.{IsBelowZero, IsAfter, game_from}
use Rattle.chip_graph.proofs.SumLemmas.{sum_by_place}
use Rattle.chip_sequence.specs.Faults.{IsNegative}
use Rattle.chip_sequence.specs.declared.counted.AfterFault.{AfterFault}
use Rattle.chip_sequence.specs.declared.counted.AfterFault.TheVariants.{Negative, NoMemory}
use Rattle.chip_sequence.proofs.BoundLemmas.{led_total}
pub use Rattle.chip_graph.proofs.SumLemmas.{sum_small}

module _ (G : Multigraph) (good : IsGraph G) (fired : List ℕ) (v : ℕ) where
  -- what an edge brings
  abbrev pub flow : ℕ → ℕ
  flow e = (edge_at G e).mult * slice_index fired (edge_at G e).tail

  -- an edge into v is an edge
  pub in_edge : (i : ℕ) → i < length (edges_in G v) → get_or (edges_in G v) i 0 < length G.edges
  in_edge i l = All-picked (λ e. eqb (edge_at G e).head v) (length G.edges) (length G.edges) (omega arith) i 0 l

  -- all that flows into v
  pub flow_sum : sum_by flow (edges_in G v) ≡ inflow G (slice_index fired) v
  flow_sum = picked_sum flow (λ e. eqb (edge_at G e).head v) (length G.edges)

  module _ (fits : (u : ℕ) → slice_index fired u < 2 ^ 64) where
    flow_small : (e : ℕ) → e < length G.edges → flow e ≤ 2 ^ 20 * 2 ^ 64
    flow_small e l = mul-le-mul {m₂ = 2 ^ 64} (good.edges_fit e l).few_chips (omega (arith, fits (edge_at G e).tail))

    inflow_small : inflow G (slice_index fired) v ≤ 2 ^ 107
    inflow_small =
        let few = good.few_edges in
        omega (arith, sum_small (length G.edges) (2 ^ 20 * 2 ^ 64) (λ e. eqb (edge_at G e).head v) flow flow_small)

    -- the sum so far and the next edge's flow fit 128 bits
    pub flow_fits : (start had i : ℕ) → start < 2 ^ 64 → had ≡ start + sum_by flow (take i (edges_in G v))
        → i < length (edges_in G v) → had + flow (get_or (edges_in G v) i 0) < 2 ^ 128
    flow_fits start had i low is l =
        omega (arith, sum_by_more_le flow (edges_in G v) i 0 l, flow_sum, inflow_small)

pub game_from_is : (G : Multigraph) (start : List ℕ) → IsGraph G → length start ≡ G.vertices → sum start ≤ max_total
    → IsGame (game_from G start 0)
game_from_is G start good each few =
    record { graph_fits = good; start_fits = each; few_chips = few; low_limit = omega arith }

module _ (g : ChipGame) (ok : IsGame g) (fired : List ℕ) (each : length fired ≡ g.graph.vertices) (none_below : (v : ℕ)
    → v < g.graph.vertices → IsBelowZero g.graph (slice_index g.start) (slice_index fired) v → ⊥) where
  -- the chips by the counts
  abbrev pub chips_then : ℕ → ℕ
  chips_then = position_by_counts g.graph (slice_index g.start) (slice_index fired)

  -- the total is that of the start
  then_total : sum_below g.graph.vertices chips_then ≡ sum g.start
  then_total =
      led_total g.graph ok.graph_fits (slice_index g.start) (slice_index fired) chips_then
      (λ u l. (let a = none_below u l in omega arith))
      ∙ sym (sum_by_place g.start ∙ ap (λ (n : ℕ). sum_below n (slice_index g.start)) ok.start_fits)

  -- so no vertex has more
  pub then_few : (v : ℕ) → v < g.graph.vertices → chips_then v ≤ 2 ^ 40
  then_few v l = omega (arith, sum_below_term g.graph.vertices chips_then v l, then_total, ok.few_chips)

  pub is_after : (chips : List ℕ) → length chips ≡ g.graph.vertices
      → ((v : ℕ) → v < g.graph.vertices → slice_index chips v ≡ chips_then v) → IsAfter g fired chips
  is_after chips long by_counts = record {
    none_below = none_below;
    chips_each = long;
    by_counts = by_counts;
    kept = sum_by_place chips ∙ ap (λ (n : ℕ). sum_below n (slice_index chips)) long
        ∙ sum_below_ext g.graph.vertices _ _ by_counts ∙ then_total;
  }

-- no vertex is below 0, so no fault names one
pub no_fault : (g : ChipGame) (fired : List ℕ) (fault : AfterFault) → IsNegative g fired fault
    → ((v : ℕ) → IsBelowZero g.graph (λ u. get_or g.start u 0) (λ u. get_or fired u 0) v → ⊥) → ⊥
no_fault g fired (Negative v) is none = none v is.below
no_fault g fired NoMemory is none = is
