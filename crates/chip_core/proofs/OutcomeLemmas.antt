-- Serves Core.antt, Outcomes.antt, Positions.antt. The outcome of a closed log: a report accepts it, a firing sequence
-- leads to it, and if no seal halted a vertex every player reaches it.
use Rattle.chip_core.proofs.Names.{nat_tests, ◌≡◌, ℕ, ◌^◌, ◌<◌, ◌≤◌, true, false, not, ◌&&◌, eqb, leb, List, All}
use Rattle.chip_core.proofs.Names.{Contains, length, slice_index, Option, Some, sym, ◌∙◌, subst, arith, true≢false}
use Rattle.chip_core.proofs.Names.{IsStrictlyIncreasing, get_or_past, All-from_get_or, get_or-le-sum_by, dite, dec_lt}
use Rattle.chip_core.proofs.Names.{degree, IsGame, Setting, All-picked, picked_none, picked_ext, picked_ascends}
use Rattle.chip_core.proofs.Names.{Contains-picked, Outcome, IsOutcome, IsPlayed, legal_vertices, position_after}
use Rattle.chip_core.proofs.Names.{counts, IsWholePlay, position_by_counts, IsBelowZero, counts_outside, one_end, Cause}
use Rattle.chip_core.proofs.Names.{SealedEdge, Log, part_in, fired_by, is_by_limit, IsLegalLog, IsClosed, chips_given}
use Rattle.chip_core.proofs.Names.{played_game, chips_at, firings, NoneHaltedBySeal, is_by_seal, AreFired, IsOutcomeOf}
use Rattle.chip_core.proofs.Names.{ComesTo, OutcomesTell, inflow_outside}
use Rattle.chip_core.proofs.GivenLemmas.{started_outside, given_is, given_within}
use Rattle.chip_core.proofs.PositionLemmas.{counts_are, is_sequence, is_within, none_below, by_counts}
use Rattle.chip_core.proofs.ClosingLemmas.{played, agrees_within, over}

-- a halt has one cause
one_cause : (h : Option Cause) → is_by_limit h ≡ true → is_by_seal h ≡ true → ⊥
one_cause h limit seal = grind (arith, nat_tests)

no_seal_halts : (h : Option Cause) → (h ≡ Some SealedEdge → ⊥) → is_by_seal h ≡ false
no_seal_halts h no' = grind (arith, nat_tests)

module _ (g : Setting) (game : IsGame g.game) (some_ring : 0 < g.ring) (log : Log) (legal : IsLegalLog g log) where
  -- ---- counts and chips

  -- what isn't a vertex never fires
  fired_outside : (v : ℕ) → g.game.graph.vertices ≤ v → fired_by g log v ≡ 0
  fired_outside v past =
      let a = counts_are g log v in let b = counts_outside g.game.graph (firings log) (chips_given g log) v
      (is_sequence g game some_ring log legal) past in cc

  all_fired : (fired : List ℕ) → AreFired g log g.game.graph.vertices fired → (v : ℕ)
      → slice_index fired v ≡ fired_by g log v
  all_fired fired are v = dite (dec_lt v g.game.graph.vertices)
      (are.each v)
      (λ nl. let n = are.count_is in let a = get_or_past fired v 0 (omega arith) in
      let b = fired_outside v (omega arith) in cc)

  same_fired : (fired : List ℕ) → AreFired g log g.game.graph.vertices fired → slice_index fired ≡ fired_by g log
  same_fired fired are j v = all_fired fired are v j

  -- no vertex has fired more chips than it had
  pub never_negative : (fired : List ℕ) → AreFired g log g.game.graph.vertices fired → (v : ℕ)
      → IsBelowZero g.game.graph (chips_given g log) (slice_index fired) v → ⊥
  never_negative fired are v low = none_below g game some_ring log legal v
      (rw (← (same_fired fired are)) low)

  -- numbers that are no vertices have no chips
  chips_outside : (v : ℕ) → g.game.graph.vertices ≤ v → position_by_counts g.game.graph (chips_given g log) (fired_by g log) v
      ≡ 0
  chips_outside v past =
      let a = started_outside g game some_ring log legal v past in
      let b = inflow_outside g.game.graph game.graph_fits (fired_by g log) v past in
      omega arith

  module _ (o : Outcome) (is : IsOutcomeOf g log o) where
    chips_are : (v : ℕ) → slice_index o.chips.items v ≡ position_after g.game.graph (chips_given g log) (firings log) v
    chips_are v =
        let at = by_counts g game some_ring log legal v in
        dite (dec_lt v g.game.graph.vertices)
        (λ l. (let chips = is.chips.by_counts v l in let given = given_is g game some_ring log legal in
        let fired = same_fired o.fired.items is.fired in cc))
        (λ nl. (let each = is.chips.chips_each in let none = get_or_past o.chips.items v 0 (omega arith) in
        let outside = chips_outside v (omega arith) in cc))

    -- the firings made reach it
    pub comes : ComesTo g (chips_given g log) (firings log) o
    comes = record {
      sequence = is_sequence g game some_ring log legal;
      within = is_within g game some_ring log legal;
      counted = λ v. (let a = all_fired o.fired.items is.fired v in let b = counts_are g log v in cc);
      position = chips_are;
    }

    -- ---- a report accepts it

    low_counts : (v : ℕ) → slice_index o.fired.items v ≤ g.game.limit
    low_counts v = let a = comes.counted v in let b = comes.within v in omega arith

    apart : (v : ℕ) → Contains o.over.items v → Contains o.sealed.items v → ⊥
    apart v limit seal = one_cause (part_in g log v).halt
        (Contains-picked (λ u. is_by_limit (part_in g log u).halt) g.game.graph.vertices v
        (rw (← is.over) limit)).1
        (Contains-picked (λ u. is_by_seal (part_in g log u).halt) g.game.graph.vertices v
        (rw (← is.sealed) seal)).1

    pub in_range : IsOutcome o
    in_range =
        let vertices = is.fired.count_is in
        record {
          same_length = cc;
          some_vertex = (let a = game.graph_fits.some_vertex in omega arith);
          few_vertices = (let a = game.graph_fits.few_vertices in omega arith);
          few_firings = All-from_get_or (λ n. n ≤ 2 ^ 40) o.fired.items 0
              (λ i l. (let a = low_counts i in let b = game.low_limit in omega arith));
          few_chips = All-from_get_or (λ n. n ≤ 2 ^ 40) o.chips.items 0
              (λ i l. (let a = get_or-le-sum_by (λ (n : ℕ). n) o.chips.items i 0 l in let b = is.chips.kept in
              let c = given_within g game some_ring log legal in omega arith));
          over_ascends = subst IsStrictlyIncreasing (sym is.over)
              (picked_ascends (λ u. is_by_limit (part_in g log u).halt) g.game.graph.vertices);
          over_vertices = subst (All (λ v. v < length o.fired.items)) (sym is.over)
              (All-picked (λ u. is_by_limit (part_in g log u).halt) g.game.graph.vertices (length o.fired.items)
              (omega arith));
          sealed_ascends = subst IsStrictlyIncreasing (sym is.sealed)
              (picked_ascends (λ u. is_by_seal (part_in g log u).halt) g.game.graph.vertices);
          sealed_vertices = subst (All (λ v. v < length o.fired.items)) (sym is.sealed)
              (All-picked (λ u. is_by_seal (part_in g log u).halt) g.game.graph.vertices (length o.fired.items) (omega arith));
          apart = apart;
        }

    -- ---- if no seal halted a vertex

    module _ (closed : IsClosed g log) (no_seal : NoneHaltedBySeal g log) where
      whole : IsWholePlay g.game.graph (chips_given g log) g.game.limit (firings log)
      whole = played g game some_ring log legal closed no_seal

      -- the final chips are those of the outcome
      chips_lie : (v : ℕ) → v < g.game.graph.vertices → chips_at g log v ≡ slice_index o.chips.items v
      chips_lie v l =
          let a = (agrees_within g game some_ring log legal closed no_seal (firings log) whole).chips v l in
          let b = chips_are v in cc

      same_legal : legal_vertices g.game.graph (chips_at g log) ≡ legal_vertices g.game.graph (slice_index o.chips.items)
      same_legal = picked_ext (λ v. not (eqb v g.game.graph.sink) && leb (degree g.game.graph v) (chips_at g log v))
          (λ v. not (eqb v g.game.graph.sink) && leb (degree g.game.graph v) (slice_index o.chips.items v)) g.game.graph.vertices
          (λ v l. (let a = chips_lie v l in cc))

      -- it is every player's, in the game played
      pub is_played : IsPlayed (played_game g log) o
      is_played =
          let from : chips_given g log ≡ slice_index (played_game g log).start =
          sym (given_is g game some_ring log legal) in
          record {
            ends = (firings log, rw (← from) whole);
            fired_each = is.fired.count_is;
            chips_each = is.chips.chips_each;
            counted = λ vs play v. (let a = comes.counted v in let b = (ends_alike vs play).0 v in cc);
            position = λ vs play v. (let c = comes.position v in let d = (ends_alike vs play).1 v in cc);
            low_counts = low_counts;
            kept = is.chips.kept;
            over = is.over ∙ over g game some_ring log legal closed no_seal ∙ same_legal;
            sealed = is.sealed ∙ picked_none (λ u. is_by_seal (part_in g log u).halt) g.game.graph.vertices
                (λ u l on. true≢false (sym on ∙ no_seal_halts (part_in g log u).halt (no_seal u l)));
          }
        where
          ends_alike : (vs : List ℕ) → IsWholePlay g.game.graph (slice_index (played_game g log).start) g.game.limit vs
              → ((u : ℕ) → counts (firings log) u ≡ counts vs u)
              × ((u : ℕ) → position_after g.game.graph (chips_given g log) (firings log) u
              ≡ position_after g.game.graph (chips_given g log) vs u)
          ends_alike vs play = one_end g.game.graph (chips_given g log) g.game.limit (firings log) vs whole
              (rw (← (given_is g game some_ring log legal)) play)

pub outcomes_tell : OutcomesTell
outcomes_tell g game some_ring log legal o is = record {
  comes = comes g game some_ring log legal o is;
  in_range = in_range g game some_ring log legal o is;
  played = λ closed no_seal. is_played g game some_ring log legal o is closed no_seal;
}
