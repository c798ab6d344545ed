-- Serves Rounds.antt and Player.antt.
-- The plain player: turns, rounds, and what they come to.
use Rattle.std.proofs.Common.{◌≡◌, ◌≢◌, ℕ, zero, suc, ◌+◌, ◌-◌, ◌*◌, ◌/◌, ◌<◌, ◌≤◌, ◌^◌, min, not, ◌&&◌}
use Rattle.std.proofs.Common.{eqb, leb, List, [], length, sum, get_or, set, slice_index, replicate, ◌⊎◌}
use Rattle.std.proofs.Common.{inl, inr, ⊎_elim, refl, sym, ap, ◌∙◌, subst, arith, get_or-set_same}
use Rattle.std.proofs.Common.{get_or-set_other, mul_comm, mul-le-mul_left}
use Rattle.std.proofs.Math.Nat.{add-mul}
use Rattle.std.proofs.lemmas.List.{length-replicate}
use mathlib.Core.Logic.{dite}
use native.Mathlib.Decide.{ℕ_discrete, dec_lt}
use Rattle.chip_graph.specs.Sums.{sum_below}
use Rattle.chip_graph.specs.Multigraph.{Multigraph, degree}
use Rattle.chip_graph.specs.ChipGame.{ChipGame, IsGame}
use Rattle.chip_graph.proofs.SumLemmas.{cond_yes, cond_no, sum_below_move, sum_by_place}
use Rattle.chip_sequence.specs.declared.outcome.Outcome.{Outcome}
use Rattle.chip_sequence.specs.Firing.{IsLegal, legal_vertices}
use Rattle.chip_sequence.specs.Sequence.{position_after, counts, IsWholePlay}
use Rattle.chip_sequence.specs.Counted.{IsAfter}
use Rattle.chip_sequence.specs.Certificate.{AreForced, IsCertified, AreBurnt, IsOnTheWay}
use Rattle.chip_sequence.specs.Bound.{firing_bound, greatest_degree}
use Rattle.chip_sequence.specs.Play.{IsPlayed, IsEnough}
use Rattle.chip_fire.specs.Rounds.{IsInRange, IsBegun, StaysOnTheWay, firings_left}
use Rattle.chip_fire.specs.Rounds.{IsSwept, IsRound, AreRounds, OnlyRise}
use Rattle.chip_fire.specs.Player.{PlaysOut}
use Rattle.chip_sequence.proofs.FiringLemmas.{counts-replicate, batch}
use Rattle.chip_sequence.proofs.EndLemmas.{continued}
use Rattle.chip_sequence.proofs.CertificateLemmas.{certified_counts, led, on_the_way, start_on_the_way}
use Rattle.chip_sequence.proofs.CertificateLemmas.{same_way, playing_on, end_of_the_way, led_after}
use Rattle.chip_sequence.proofs.LegalLemmas.{legal_of_test}
use Rattle.chip_sequence.proofs.OutcomeLemmas.{outcome_is}
use Rattle.chip_sequence.proofs.BurningLemmas.{burnt_counts}
use Rattle.chip_sequence.proofs.BoundLemmas.{led_total, enough_law}
use Rattle.chip_graph.proofs.PickLemmas.{picked_none}

-- ---- quotients

-- a number up to the quotient asks for what there is
pub within_quotient : (x d k : ℕ) → 0 < d → k ≤ x / d → k * d ≤ x
within_quotient x d k some within = let a = mul-le-mul_left d within in let c = mul_comm d k in omega arith

-- a quotient of a number that is not the smaller one
pub quotient_some : (x d : ℕ) → 0 < d → d ≤ x → 0 < x / d
quotient_some x d some enough = dite (dec_lt 0 (x / d))
    (λ l. l)
    (λ nl. let none : x / d ≡ 0 = omega arith in let a : d * (x / d) ≡ d * 0 = ap (λ (n : ℕ). d * n) none in
    absurd (omega arith))

-- ---- one turn

module _ (G : Multigraph) (limit : ℕ) (chips fired : List ℕ) (ok : IsInRange G limit chips fired) (v k : ℕ)
    (is_vertex : v < G.vertices) where
  -- the counts after k firings of v
  abbrev pub counted : List ℕ
  counted = set fired v (get_or fired v 0 + k)

  counted_here : get_or counted v 0 ≡ get_or fired v 0 + k
  counted_here = get_or-set_same fired v (get_or fired v 0 + k) 0 (let a = ok.fired_each in omega arith)

  counted_else : (u : ℕ) → v ≢ u → get_or counted u 0 ≡ get_or fired u 0
  counted_else u ne = get_or-set_other fired v u (get_or fired v 0 + k) 0 (λ z. ne (sym z))

  -- the counts are those of k firings more
  counted_more : (u : ℕ) → get_or counted u 0 ≡ get_or fired u 0 + counts (replicate k v) u
  counted_more u = dite (ℕ_discrete v u)
      (λ e. (let a : get_or counted u 0 ≡ get_or fired u 0 + k = subst
      (λ (w : ℕ). get_or counted w 0 ≡ get_or fired w 0 + k) e counted_here in let b = counts-replicate k v u in
      let c = cond_yes v u k 0 e in omega arith))
      (λ ne. (let a = counted_else u ne in let b = counts-replicate k v u in let c = cond_no v u k 0 ne in omega arith))

  pub turn_stays : get_or fired v 0 + k ≤ limit → v ≢ G.sink → k * degree G v ≤ get_or chips v 0 → (now : List ℕ)
      → ((u : ℕ) → get_or now u 0 ≡ position_after G (slice_index chips) (replicate k v) u)
      → StaysOnTheWay G limit chips fired now counted
  turn_stays room other can now same x is = same_way G x limit (position_after G (slice_index chips) (replicate k v))
      (λ u. slice_index fired u + counts (replicate k v) u) (slice_index now) (slice_index counted)
      (playing_on G x limit (slice_index chips) (slice_index fired) is (replicate k v)
      (batch G v k (slice_index chips) is_vertex other can) (λ u. dite (ℕ_discrete v u)
      (λ e. subst (λ (w : ℕ). get_or fired w 0 + counts (replicate k v) w ≤ limit) e
      (let a = counted_here in let b = counted_more v in omega arith))
      (λ ne. (let a = counted_else u ne in let b = counted_more u in let c = ok.low_counts u in omega arith))))
      same counted_more

  pub turn_rises : OnlyRise fired counted
  turn_rises = λ u. (let a = counted_more u in omega arith)

  pub turn_less : get_or fired v 0 + k ≤ limit → 0 < k
      → (firings_left G limit counted < firings_left G limit fired)
      × (firings_left G limit fired ≤ firings_left G limit counted + limit)
  turn_less room some =
      let a = sum_below_move G.vertices (λ u. limit - get_or counted u 0) (λ u. limit - get_or fired u 0) v is_vertex
      (λ u l ne. ap (λ (n : ℕ). limit - n) (counted_else u (λ z. ne (sym z)))) in
      let b = counted_here in
      (omega arith, omega arith)

-- firings that are not taken back, and then others that are not
pub rise_more : (fired fired' fired'' : List ℕ) → OnlyRise fired fired' → OnlyRise fired' fired''
    → OnlyRise fired fired''
rise_more fired fired' fired'' first last = λ v. (let a = first v in let b = last v in omega arith)

-- ---- one sweep

module _ (G : Multigraph) (limit first : ℕ) (chips fired chips' fired' : List ℕ) (count i : ℕ)
    (so_far : IsSwept G limit first chips fired chips' fired' count (first + 2 * i)) where
  -- a vertex that does not fire
  pub sweep_rests : (IsLegal G (slice_index chips') (first + 2 * i) → slice_index fired' (first + 2 * i) ≡ limit)
      → IsSwept G limit first chips fired chips' fired' count (first + 2 * (i + 1))
  sweep_rests rests = record {
    in_range = so_far.in_range;
    stays = so_far.stays;
    rises = so_far.rises;
    once_each = (let a = so_far.once_each in omega arith);
    each_fires = so_far.each_fires;
    few_each = so_far.few_each;
    none_fired = λ zero.
        let none = so_far.none_fired zero in (
          none.0,
          none.1,
          λ j l can. dite (ℕ_discrete j i)
              (λ e. subst (λ (w : ℕ). slice_index fired' (first + 2 * w) ≡ limit) (sym e)
              (rests (subst (λ (w : ℕ). IsLegal G (slice_index chips') (first + 2 * w)) e can)))
              (λ ne. none.2 j (omega arith) can),
        );
  }

  -- the sink
  pub sweep_sink : first + 2 * i ≡ G.sink → IsSwept G limit first chips fired chips' fired' count (first + 2 * (i + 1))
  sweep_sink is = sweep_rests (λ can. absurd (can.not_sink is))

  -- a vertex that fires
  pub sweep_fires : (chips'' fired'' : List ℕ) → IsInRange G limit chips'' fired''
      → StaysOnTheWay G limit chips' fired' chips'' fired'' → OnlyRise fired' fired''
      → (firings_left G limit fired'' < firings_left G limit fired')
      × (firings_left G limit fired' ≤ firings_left G limit fired'' + limit)
      → IsSwept G limit first chips fired chips'' fired'' (count + 1) (first + 2 * (i + 1))
  sweep_fires chips'' fired'' in_range stays rises fires = record {
    in_range = in_range;
    stays = λ x is. stays x (so_far.stays x is);
    rises = rise_more fired fired' fired'' so_far.rises rises;
    once_each = (let a = so_far.once_each in omega arith);
    each_fires = (let a = so_far.each_fires in let b = fires.0 in omega arith);
    few_each = (let a = so_far.few_each in let b = fires.1 in let c = add-mul count 1 limit in omega arith);
    none_fired = λ zero. absurd (omega arith);
  }

-- ---- one round

-- every number is even or odd
halves : (v : ℕ) → ((i : ℕ) × (v ≡ 0 + 2 * i)) ⊎ ((i : ℕ) × (v ≡ 1 + 2 * i))
halves zero = inl (0, refl)
halves (suc v) = ⊎_elim (λ even. inr (even.0, (let a = even.1 in omega arith)))
    (λ odd. inl (odd.0 + 1, (let a = odd.1 in omega arith))) (halves v)

module _ (g : ChipGame) (chips fired chips' fired' chips'' fired'' : List ℕ) (begun : IsBegun g chips fired) where
  -- two sweeps, one after the other
  both : StaysOnTheWay g.graph g.limit chips fired chips' fired'
      → StaysOnTheWay g.graph g.limit chips' fired' chips'' fired'' → IsInRange g.graph g.limit chips'' fired''
      → IsBegun g chips'' fired''
  both even odd in_range = record {
    in_range = in_range;
    on_the_way = odd (slice_index g.start) (even (slice_index g.start) begun.on_the_way);
  }

  -- they make a round
  pub two_sweeps : (count count' : ℕ) → IsSwept g.graph g.limit 0 chips fired chips' fired' count g.graph.vertices
      → IsSwept g.graph g.limit 1 chips' fired' chips'' fired'' count' g.graph.vertices
      → IsRound g fired chips'' fired'' (count + count')
  two_sweeps count count' even odd = record {
    begun = both even.stays odd.stays odd.in_range;
    rises = rise_more fired fired' fired'' even.rises odd.rises;
    once_each = (let a = even.once_each in let b = odd.once_each in omega arith);
    each_fires = (let a = even.each_fires in let b = odd.each_fires in omega arith);
    few_each = (let a = even.few_each in let b = odd.few_each in let c = add-mul count count' g.limit in omega arith);
    none_fired = λ zero.
        let none = even.none_fired (omega arith) in
        let none' = odd.none_fired (omega arith) in (
          none'.1 ∙ none.1,
          λ v can. ⊎_elim
              (λ is.
              let can' : IsLegal g.graph (slice_index chips') (0 + 2 * is.0) =
              subst (IsLegal g.graph (slice_index chips')) is.1
              (subst (λ (l : List ℕ). IsLegal g.graph (slice_index l) v) none'.0 can) in
              ap (λ (l : List ℕ). slice_index l v) none'.1 ∙ ap (slice_index fired') is.1
              ∙ none.2 is.0 can'.is_vertex can')
              (λ is.
              let can' : IsLegal g.graph (slice_index chips'') (1 + 2 * is.0) =
              subst (IsLegal g.graph (slice_index chips'')) is.1 can in
              ap (slice_index fired'') is.1 ∙ none'.2 is.0 can'.is_vertex can')
              (halves v),
        );
  }

-- ---- some rounds

module _ (g : ChipGame) (fired : List ℕ) (before : ℕ) where
  -- none
  pub no_rounds : AreRounds g fired fired 0 before before
  no_rounds = record {
    turns = 0;
    rises = λ v. omega arith;
    counted = λ fits. omega arith;
    some_each = omega arith;
    once_each = omega arith;
    each_fires = omega arith;
    few_each = omega arith;
    none_fired = λ none. refl;
  }

  -- one more
  pub round_more : (n after count : ℕ) (fired' chips'' fired'' : List ℕ) → AreRounds g fired fired' n before after
      → IsRound g fired' chips'' fired'' count → 0 < count
      → AreRounds g fired fired'' (n + 1) before (min (after + count) (2 ^ 64 - 1))
  round_more n after count fired' chips'' fired'' so_far round some = record {
    turns = so_far.turns + count;
    rises = rise_more fired fired' fired'' so_far.rises round.rises;
    counted = λ fits. (let a = so_far.counted fits in omega arith);
    some_each = (let a = so_far.some_each in omega arith);
    once_each = (let a = so_far.once_each in let b = round.once_each in
        let c : (n + 1) * g.graph.vertices ≡ n * g.graph.vertices + g.graph.vertices = omega arith in omega arith);
    each_fires = (let a = so_far.each_fires in let b = round.each_fires in omega arith);
    few_each = (let a = so_far.few_each in let b = round.few_each in
        let c = add-mul so_far.turns count g.limit in omega arith);
    none_fired = λ zero. absurd (omega arith);
  }

-- ---- the whole game

-- a list of zeros
pub zeros : (n v : ℕ) → slice_index (replicate n 0) v ≡ 0
zeros zero v = refl
zeros (suc n) zero = refl
zeros (suc n) (suc v) = zeros n v

-- where a play may begin

module _ (g : ChipGame) (ok : IsGame g) where
  -- the start, before anything has fired
  begun_at_start : IsBegun g g.start (replicate g.graph.vertices 0)
  begun_at_start = record {
    in_range = record {
      graph_fits = ok.graph_fits;
      chips_each = ok.start_fits;
      fired_each = length-replicate g.graph.vertices 0;
      few_chips = ok.few_chips;
      low_counts = λ v. (let a = zeros g.graph.vertices v in omega arith);
      low_limit = ok.low_limit;
    };
    on_the_way = same_way g.graph (slice_index g.start) g.limit (slice_index g.start)
        (λ v. 0) (slice_index g.start) (slice_index (replicate g.graph.vertices 0))
        (start_on_the_way g.graph (slice_index g.start) g.limit) (λ u. refl) (zeros g.graph.vertices);
  }

  pub begun_none : (chips fired : List ℕ) → chips ≡ g.start → fired ≡ replicate g.graph.vertices 0
      → IsBegun g chips fired
  begun_none chips fired is_chips is_fired =
      subst (λ (l : List ℕ). IsBegun g l fired) (sym is_chips) (subst (IsBegun g g.start) (sym is_fired) begun_at_start)

  module _ (chips fired counts : List ℕ) (each : length counts ≡ g.graph.vertices) (low : (v : ℕ)
      → slice_index fired v ≤ g.limit) (forced : AreForced g.graph (slice_index g.start) g.limit (slice_index fired))
      (after : IsAfter g counts chips) where
    -- counts that are forced, and within the limit if they are above those that are
    begun_forced : ((v : ℕ) → slice_index fired v < slice_index counts v → slice_index counts v ≤ g.limit)
        → AreForced g.graph (slice_index g.start) g.limit (slice_index counts) → IsBegun g chips counts
    begun_forced within all = record {
      in_range = record {
        graph_fits = ok.graph_fits;
        chips_each = after.chips_each;
        fired_each = each;
        few_chips = (let a = after.kept in let b = ok.few_chips in omega arith);
        low_counts = λ v. dite (dec_lt (slice_index fired v) (slice_index counts v)) (within v)
            (λ none. let a = low v in omega arith);
        low_limit = ok.low_limit;
      };
      on_the_way =
          on_the_way g.graph (slice_index g.start) g.limit (slice_index chips) (slice_index counts)
          (led_after g ok counts chips each after) all;
    }

    pub begun_certified : IsCertified g.graph (slice_index g.start) g.limit (slice_index fired) (slice_index counts)
        → IsBegun g chips counts
    begun_certified certified = begun_forced (λ v some. (certified v some).within)
        (certified_counts g.graph ok.graph_fits (slice_index g.start) g.limit (slice_index fired) (slice_index counts)
        forced certified)

    pub begun_burnt : (order : List ℕ)
        → AreBurnt g.graph (slice_index g.start) g.limit (slice_index fired) (slice_index counts) (slice_index order)
        → IsBegun g chips counts
    begun_burnt order burnt = begun_forced (λ v some. (burnt v some).within)
        (burnt_counts g.graph ok.graph_fits (slice_index g.start) g.limit (slice_index fired) (slice_index counts)
        (slice_index order) forced burnt)

-- where a play ends

module _ (G : Multigraph) (limit : ℕ) (start chips fired : List ℕ) (ok : IsInRange G limit chips fired)
    (is : IsOnTheWay G (slice_index start) limit (slice_index chips) (slice_index fired)) (ended : (v : ℕ)
    → IsLegal G (slice_index chips) v → slice_index fired v ≡ limit) where
  -- every whole play has these counts and ends with these chips
  at_end : (vs : List ℕ) → IsWholePlay G (slice_index start) limit vs → ((v : ℕ) → slice_index fired v ≡ counts vs v)
      × ((v : ℕ) → slice_index chips v ≡ position_after G (slice_index start) vs v)
  at_end = end_of_the_way G (slice_index start) limit (slice_index chips) (slice_index fired) is ended

  -- no chip is lost
  kept : length start ≡ G.vertices → sum chips ≡ sum start
  kept each =
      sum_by_place chips
      ∙ ap (λ (n : ℕ). sum_below n (slice_index chips)) ok.chips_each
      ∙ led_total G ok.graph_fits (slice_index start) (slice_index fired) (slice_index chips)
      (λ u l. led G (slice_index start) limit (slice_index chips) (slice_index fired) is u)
      ∙ sym (sum_by_place start ∙ ap (λ (n : ℕ). sum_below n (slice_index start)) each)

  -- all that a player answers
  pub game_played : (o : Outcome) → length start ≡ G.vertices → o.fired.items ≡ fired → o.chips.items ≡ chips
      → o.over.items ≡ legal_vertices G (slice_index chips) → o.sealed.items ≡ []
      → IsPlayed (record { graph = G; start = start; limit = limit }) o
  game_played o each is_fired is_chips over sealed = record {
    ends = continued G (slice_index start) limit [] tt (λ v. omega arith);
    fired_each = ap length is_fired ∙ ok.fired_each;
    chips_each = ap length is_chips ∙ ok.chips_each;
    counted = λ vs whole v. ap (λ (l : List ℕ). slice_index l v) is_fired ∙ (at_end vs whole).0 v;
    position = λ vs whole v. ap (λ (l : List ℕ). slice_index l v) is_chips ∙ (at_end vs whole).1 v;
    low_counts = λ v. subst (λ (l : List ℕ). slice_index l v ≤ limit) (sym is_fired) (ok.low_counts v);
    kept = ap sum is_chips ∙ kept each;
    over = over ∙ sym (ap (λ (l : List ℕ). legal_vertices G (slice_index l)) is_chips);
    sealed = sealed;
  }

-- a limit that is enough stops no vertex
pub not_stopped : (g : ChipGame) → IsGame g → (o : Outcome) → IsPlayed g o → IsEnough g → o.over.items ≡ []
not_stopped g ok o is far =
    let vs : List ℕ = is.ends.0 in
    let whole = is.ends.1 in
    let total : sum g.start ≡ sum_below g.graph.vertices (slice_index g.start) =
    sum_by_place g.start ∙ ap (λ (n : ℕ). sum_below n (slice_index g.start)) ok.start_fits in
    let low = subst (λ (n : ℕ). firing_bound n (greatest_degree g.graph) far.0 ≤ g.limit) total far.2 in
    let ended = enough_law g.graph ok.graph_fits (slice_index g.start) far.0 far.1.greatest g.limit low vs whole in
    is.over ∙ picked_none (λ v. not (eqb v g.graph.sink) && leb (degree g.graph v) (slice_index o.chips.items v))
    g.graph.vertices
    (λ v l on.
    let can = legal_of_test g.graph (slice_index o.chips.items) v l on in
    ended v (record {
      is_vertex = l;
      not_sink = can.not_sink;
      enough_chips = subst (λ (n : ℕ). degree g.graph v ≤ n) (is.position vs whole v) can.enough_chips;
    }))

-- all that the plain player answers
pub plays_out : (g : ChipGame) → IsGame g → (o : Outcome) → IsPlayed g o → PlaysOut g o
plays_out g ok o is = record {
  played = is;
  in_range = outcome_is g ok o is;
  not_stopped = not_stopped g ok o is;
}
