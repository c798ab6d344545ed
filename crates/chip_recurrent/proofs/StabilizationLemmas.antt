-- Serves Stabilizations.antt.
-- Plays of a game without chips on the sink, as stabilizations.
use Rattle.chip_recurrent.proofs.Names.{◌≡◌, ℕ, ◌<◌, ◌≤◌, ◌^◌, List, [], ◌∷◌, length, slice_index, get_or, sum}
use Rattle.chip_recurrent.proofs.Names.{cond, eqb, set, refl, sym, ap, ◌∙◌, arith, nat_tests, Contains, dite}
use Rattle.chip_recurrent.proofs.Names.{ℕ_discrete, max_total, max_limit, Multigraph, edge_at, degree, IsGraph, sum_below, ChipGame}
use Rattle.chip_recurrent.proofs.Names.{sum_by_place, sum_below_le, sum_below_term, sum_small, tested_none, game_from, IsLegal, IsPlayed}
use Rattle.chip_recurrent.proofs.Names.{position_after, counts, IsWithin, IsWholePlay, Outcome, legal_vertices_law}
use Rattle.chip_recurrent.proofs.Names.{eqb-true, AgreeOffSink, FiresTo, StabilizesTo, then_fires, then_counts, IsStable, stable_below}
use Rattle.std.specs.Prelude.{◌⊎◌}
use Rattle.std.proofs.Common.{inl, inr}
use Rattle.chip_recurrent.specs.Stabilizations.{chips_off_sink, StabilizesWithin, IsStart, IsStabilized, IsFaultOfRow}
use Rattle.chip_recurrent.specs.declared.fault.RowFault.{RowFault}
use Rattle.chip_recurrent.specs.declared.fault.RowFault.TheVariants.{Total, NoMemory}
use Rattle.std.proofs.lemmas.List.{nil_from_length, get_or-set_other, get_or-set_same, length-set}

module _ (G : Multigraph) (x : ℕ → ℕ) (start : List ℕ) (is : IsStart G x start) where
  in_all : sum start ≡ sum_below G.vertices (slice_index start)
  in_all = sum_by_place start ∙ ap (λ (n : ℕ). sum_below n (λ i. get_or start i 0)) is.each

  -- too many chips at the start are too many off the sink
  pub many : max_total < sum start → max_total < chips_off_sink G x
  many above =
      let le = sum_below_le G.vertices (slice_index start) (λ v. cond (eqb v G.sink) 0 (x v))
      (λ v l.
      dite (ℕ_discrete v G.sink)
      (λ same. rw same (omega (arith, is.none_on_sink)))
      (λ other. let a = is.off_sink v l other in grind (arith, nat_tests))) in
      omega (arith, in_all)

  -- and a play without an outcome has a fault of its row
  pub fault_of_play : (row : ℕ) (fault : RowFault)
      → (fault ≡ NoMemory) ⊎ ((fault ≡ Total row) × (max_total < sum start)) → IsFaultOfRow G x row fault
  fault_of_play row fault (inl none) = rw none tt
  fault_of_play row fault (inr (total, above)) = rw total (refl, many above)

  module _ (few : sum start ≤ max_total) where
    pub start_is : AgreeOffSink G (slice_index start) x
    start_is v l ns =
        let a = sum_below_term G.vertices (slice_index start) v l in omega (arith, in_all, is.off_sink v l ns)

    pub few_off_sink : chips_off_sink G x ≤ max_total
    few_off_sink =
        let le = sum_below_le G.vertices (λ v. cond (eqb v G.sink) 0 (x v)) (slice_index start)
        (λ v l.
        dite (ℕ_discrete v G.sink)
        (λ same. grind (arith, nat_tests))
        (λ other. let a = start_is v l other in grind (arith, nat_tests))) in
        omega (arith, in_all)

    -- the end of a firing sequence without legal vertices is the stabilization, whatever lies on the sink
    to_end : (vs : List ℕ) → IsWholePlay G (slice_index start) max_limit vs → (ends : ℕ → ℕ)
        → AgreeOffSink G (position_after G (slice_index start) vs) ends → IsStable G ends
        → (within : StabilizesWithin G x ends) × ((v : ℕ) → counts within.end.fires_to.firings v ≡ counts vs v)
    to_end vs whole ends to rests =
        let first : FiresTo G x (slice_index start) =
        record { firings = []; sequence = tt; ends_at = λ v l ns. sym (start_is v l ns) } in
        let next : FiresTo G (slice_index start) ends =
        record { firings = vs; sequence = whole.sequence; ends_at = to } in (
          record {
            few_chips = few_off_sink;
            end = record { fires_to = then_fires G first next; stable = rests };
            few_firings = λ v. omega (arith, then_counts G first next v, whole.within v);
          },
          λ v. omega (arith, then_counts G first next v),
        )

-- a start for one configuration is a start for all that agree with it
pub start_for : (G : Multigraph) (w x : ℕ → ℕ) (start : List ℕ) → IsStart G w start → AgreeOffSink G w x → IsStart G x start
start_for G w x start is same = record {
  each = is.each;
  off_sink = λ v l ns. omega (arith, is.off_sink v l ns, same v l ns);
  none_on_sink = is.none_on_sink;
}

-- ---- the end of a play

-- the vertices left over are those that are legal at the end
module _ (g : ChipGame) (o : Outcome) (played : IsPlayed g o) where
  left_over : (v : ℕ) → IsLegal g.graph (slice_index o.chips.items) v → Contains o.over.items v
  left_over v can = rw played.over ((legal_vertices_law g.graph (slice_index o.chips.items) v).1 can)

  legal_over : (v : ℕ) → Contains o.over.items v → IsLegal g.graph (slice_index o.chips.items) v
  legal_over v has = (legal_vertices_law g.graph (slice_index o.chips.items) v).0 (rw played.over at has)

-- the chips at the end, without those on the sink
off_sink_legal : (G : Multigraph) (chips : List ℕ) (v : ℕ) → IsLegal G (slice_index (set chips G.sink 0)) v
    → IsLegal G (slice_index chips) v
off_sink_legal G chips v can =
    let e : slice_index (set chips G.sink 0) v ≡ slice_index chips v = get_or-set_other chips G.sink v 0 0 can.not_sink in
    record { is_vertex = can.is_vertex; not_sink = can.not_sink; enough_chips = omega (arith, can.enough_chips) }

-- what is legal is also legal in a configuration that agrees
pub legal_too : (G : Multigraph) (x y : ℕ → ℕ) → AgreeOffSink G x y → (v : ℕ) → IsLegal G x v → IsLegal G y v
legal_too G x y same v can =
    let a = same v can.is_vertex can.not_sink in
    record { is_vertex = can.is_vertex; not_sink = can.not_sink; enough_chips = omega (arith, can.enough_chips) }

module _ (G : Multigraph) (x : ℕ → ℕ) (start : List ℕ) (is : IsStart G x start)
    (few : sum start ≤ max_total) (o : Outcome) (played : IsPlayed (game_from G start max_limit) o) where
  -- a play that ends with no vertex legal has found the stabilization
  pub stabilized : IsGraph G → length o.over.items ≡ 0 → IsStabilized G x (set o.chips.items G.sink 0) o.fired.items
  stabilized good none =
      let vs : List ℕ = played.ends.0 in
      let whole : IsWholePlay G (slice_index start) max_limit vs = played.ends.1 in
      let chips : List ℕ = set o.chips.items G.sink 0 in
      let rests : IsStable G (slice_index chips) =
      (λ v can.
      let has = left_over (game_from G start max_limit) o played v (off_sink_legal G o.chips.items v can) in
      absurd (omega (arith, (rw (nil_from_length o.over.items none) at has).1))) in
      let to : AgreeOffSink G (position_after G (slice_index start) vs) (slice_index chips) =
      (λ v l ns. sym (played.position vs whole v) ∙ sym (get_or-set_other o.chips.items G.sink v 0 0 ns)) in
      let end = to_end G x start is few vs whole (slice_index chips) to rests in
      record {
        is_graph = good;
        chips_each = length-set o.chips.items G.sink 0 ∙ played.chips_each;
        fired_each = played.fired_each;
        stabilizes = end.0;
        odometer = λ v. played.counted vs whole v ∙ sym (end.1 v);
        none_on_sink =
            get_or-set_same o.chips.items G.sink 0 0 (omega (arith, played.chips_each, good.sink_is_vertex));
      }

  -- if a vertex is left over, no stabilization is within the limit
  pub halted : 0 < length o.over.items → (c : ℕ → ℕ) (end : StabilizesTo G x c) → IsWithin max_limit end.fires_to.firings → ⊥
  halted some c end within = go o.over.items refl
    where
      first : FiresTo G (slice_index start) x
      first = record { firings = []; sequence = tt; ends_at = start_is G x start is few }

      way : FiresTo G (slice_index start) c
      way = then_fires G first end.fires_to

      whole : IsWholePlay G (slice_index start) max_limit way.firings
      whole = record {
        sequence = way.sequence;
        within = λ v. omega (arith, then_counts G first end.fires_to v, within v);
        ended = λ v can. absurd (end.stable v (legal_too G (position_after G (slice_index start) way.firings) c way.ends_at v can));
      }

      go : (xs : List ℕ) → o.over.items ≡ xs → ⊥
      go [] e = let a = ap length e in absurd (omega arith)
      go (v ∷ vs) e =
          let can = legal_over (game_from G start max_limit) o played v (rw e (0, omega arith, refl)) in
          let same : AgreeOffSink G (slice_index o.chips.items) c =
          (λ u l ns. played.position way.firings whole u ∙ way.ends_at u l ns) in
          end.stable v (legal_too G (slice_index o.chips.items) c same v can)

-- ---- small numbers

module _ (G : Multigraph) (good : IsGraph G) where
  pub degree_small : (v : ℕ) → degree G v ≤ 2 ^ 43
  degree_small v =
      let few = good.few_edges in
      omega (
        arith,
        sum_small (length G.edges) (2 ^ 20) (λ e. eqb (edge_at G e).tail v) (λ e. (edge_at G e).mult)
            (λ e l. (good.edges_fit e l).few_chips),
      )

  -- no edge leads out of the sink
  pub sink_degree : degree G G.sink ≡ 0
  sink_degree = tested_none _ (λ e. eqb (edge_at G e).tail G.sink) _
      (λ e l on. absurd ((good.edges_fit e l).not_from_sink (eqb-true _ _ on)))

  module _ {x : ℕ → ℕ} {chips fired : List ℕ} (is : IsStabilized G x chips fired) where
    pub few_fired : (v : ℕ) → slice_index fired v ≤ max_limit
    few_fired v = omega (arith, is.odometer v, is.stabilizes.few_firings v)

    pub few_left : (v : ℕ) → v < G.vertices → slice_index chips v ≤ 2 ^ 43
    few_left v l =
        dite (ℕ_discrete v G.sink)
        (λ same. rw same (omega (arith, is.none_on_sink)))
        (λ other. omega (arith, stable_below G is.stabilizes.end.stable v l other, degree_small v))
