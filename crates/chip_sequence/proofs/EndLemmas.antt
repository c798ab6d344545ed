-- Serves Sequence.antt, Firing.antt.
-- Ends of firing sequences: least action, one end, continuation.
use Rattle.chip_sequence.proofs.Names.{◌≡◌, ℕ, zero, suc, ◌+◌, ◌-◌, ◌*◌, ◌<◌, ◌≤◌, cond, eqb, List, [], ◌∷◌, ◌++◌, refl}
use Rattle.chip_sequence.proofs.Names.{sym, ap, arith, inl, inr, rules, Bool, not, ◌&&◌, leb, ltb, picked_has}
use Rattle.chip_sequence.proofs.Names.{Contains-picked, dite, dec_lt, sum_below, Multigraph, degree, cond_yes, IsLegal}
use Rattle.chip_sequence.proofs.Names.{fired_once, position_after, IsFiringSequence, counts, IsWithin, HasEndedWithin}
use Rattle.chip_sequence.proofs.Names.{IsWholePlay, nat_tests}
use Rattle.std.proofs.Common.{◌⊎◌, ⊎_elim}
use Rattle.chip_graph.specs.Sums.{filter_below}
use Rattle.chip_graph.proofs.SumLemmas.{sum_below_zero, sum_below_move}
use Rattle.chip_sequence.proofs.FiringLemmas.{counts_here, counts_more, counts-append, inflow_le, inflow_none, IsLedTo}
use Rattle.chip_sequence.proofs.FiringLemmas.{led_on, position_is, same_position, position-append, sequence-append}

module _ (G : Multigraph) where
  -- ---- least action

  -- the counts most lead to a configuration, end, from which no vertex may go on
  module _ (x : ℕ → ℕ) (limit : ℕ) (most end : ℕ → ℕ) (led : IsLedTo G x most end) (rests : (v : ℕ) → IsLegal G end v
      → most v ≡ limit) where
    -- if no vertex has fired more often than by `most`, a legal vertex below the limit has fired less often: by `most`
    -- its inflow is at least as large
    not_yet : (f y : ℕ → ℕ) (v : ℕ) → IsLedTo G x f y → ((u : ℕ) → f u ≤ most u) → IsLegal G y v → f v < limit
        → f v < most v
    not_yet f y v to low can below = dite (dec_lt (f v) (most v))
        (λ l. l)
        (λ nl.
        let low_v = low v in
        let level : f v ≡ most v = omega arith in
        let c = ap (λ (n : ℕ). degree G v * n) level in
        let a = to v in let b = led v in let d = inflow_le G f most low v in
        let full = rests v (search (rules, arith)) in absurd (omega arith))

    -- the same along a list: f has fired so far
    pub least_from : (vs : List ℕ) (f y : ℕ → ℕ) → IsLedTo G x f y → ((u : ℕ) → f u ≤ most u) → IsFiringSequence G y vs
        → ((u : ℕ) → f u + counts vs u ≤ limit) → (u : ℕ) → f u + counts vs u ≤ most u
    least_from [] f y to low ok within u = let a = low u in omega arith
    least_from (v ∷ vs) f y to low ok within u =
        let h : ℕ → ℕ = λ w. f w + cond (eqb v w) 1 0 in
        let less = not_yet f y v to low ok.0 (omega (arith, within v, counts_here v v vs refl)) in
        let low' : (w : ℕ) → h w ≤ most w = (λ w. grind (arith, nat_tests, low w, less)) in
        let rest = least_from vs h (fired_once G v y) (led_on G x f y v to ok.0.enough_chips) low' ok.1
        (λ w. omega (arith, within w, counts_more v w vs)) u in
        omega (arith, counts_more v u vs)

    -- no sequence within the limit fires a vertex more often than that
    pub least : (vs : List ℕ) → IsFiringSequence G x vs → IsWithin limit vs → (u : ℕ) → counts vs u ≤ most u
    least vs ok within u =
        let none = inflow_none G (λ z. 0) (λ z. refl) in
        omega (
          arith,
          least_from vs (λ w. 0) x (λ w. omega (arith, none w)) (λ w. omega arith) ok
              (λ w. omega (arith, within w)) u,
        )

  -- the same where the counts are those of a sequence that has ended
  pub least_action : (x : ℕ → ℕ) (limit : ℕ) (ws : List ℕ) → IsFiringSequence G x ws → HasEndedWithin G x limit ws
      → (vs : List ℕ) → IsFiringSequence G x vs → IsWithin limit vs → (u : ℕ) → counts vs u ≤ counts ws u
  least_action x limit ws ok ended = least x limit (counts ws) (position_after G x ws) (position_is G ws x ok) ended

  -- ---- one end

  pub one_end : (x : ℕ → ℕ) (limit : ℕ) (vs ws : List ℕ) → IsWholePlay G x limit vs → IsWholePlay G x limit ws
      → ((u : ℕ) → counts vs u ≡ counts ws u) × ((u : ℕ) → position_after G x vs u ≡ position_after G x ws u)
  one_end x limit vs ws play play' =
      let same : (u : ℕ) → counts vs u ≡ counts ws u =
      (λ u. let a = least_action x limit ws play'.sequence play'.ended vs play.sequence play.within u in
      let b = least_action x limit vs play.sequence play.ended ws play'.sequence play'.within u in omega arith) in
      (same, same_position G x vs ws play.sequence play'.sequence same)

  -- ---- continuation

  -- whether v may fire, and has some of its firings left
  abbrev may_go : (x left : ℕ → ℕ) → ℕ → Bool
  may_go x left v = not (eqb v G.sink) && (leb (degree G v) (x v) && ltb 0 (left v))

  -- the first such vertex, or there is none
  find : (x left : ℕ → ℕ) (vs : List ℕ) → filter_below (may_go x left) G.vertices ≡ vs
      → ((v : ℕ) × IsLegal G x v × (0 < left v)) ⊎ ((v : ℕ) → IsLegal G x v → left v ≡ 0)
  find x left [] is = inr (λ v can. dite (dec_lt 0 (left v))
      (λ some. let has = picked_has (may_go x left) G.vertices v can.is_vertex (grind (arith, nat_tests)) in
      absurd (omega (arith, (rw is at has).1)))
      (λ none. omega arith))
  find x left (v ∷ vs) is = let goes = Contains-picked (may_go x left) G.vertices v (rw is (0, omega arith, refl)) in
      let inside = goes.0 in let on = goes.1 in inl (v, search (rules, arith, nat_tests), grind (arith, nat_tests))

  -- a sequence from x that fires each vertex at most as often as is left, and each vertex that is legal at its end
  -- exactly as often
  pub record UsesUp (x left : ℕ → ℕ) (vs : List ℕ) : Type 0 where
    pub sequence : IsFiringSequence G x vs
    pub within : (v : ℕ) → counts vs v ≤ left v
    pub ended : (v : ℕ) → IsLegal G (position_after G x vs) v → counts vs v ≡ left v

  -- none is fired where nothing is left
  all_used : (x left : ℕ → ℕ) → ((v : ℕ) → IsLegal G x v → left v ≡ 0) → (vs : List ℕ) × UsesUp x left vs
  all_used x left none = ([], record { sequence = tt; within = λ v. omega arith; ended = λ v can. sym (none v can) })

  -- there is one: fire while something is left
  used_up : (k : ℕ) (x left : ℕ → ℕ) → sum_below G.vertices left ≤ k → (vs : List ℕ) × UsesUp x left vs
  used_up zero x left few = all_used x left (λ v can. sum_below_zero G.vertices left (omega arith) v can.is_vertex)
  used_up (suc k) x left few = ⊎_elim
      (λ found.
      let v : ℕ = found.0 in
      let can : IsLegal G x v = found.1 in
      let some : 0 < left v = found.2 in
      let less : ℕ → ℕ = λ w. cond (eqb v w) (left w - 1) (left w) in
      let here : less v ≡ left v - 1 = cond_yes v v (left v - 1) (left v) refl in
      let moved = sum_below_move G.vertices less left v can.is_vertex (λ w l ne. grind (arith, nat_tests)) in
      let rest = used_up k (fired_once G v x) less (omega arith) in
      let more : List ℕ = rest.0 in
      let use_up : UsesUp (fired_once G v x) less more = rest.1 in
      let one : (w : ℕ) → counts (v ∷ more) w + less w ≡ counts more w + left w = (λ w. grind (arith, nat_tests)) in (
        v ∷ more,
        record {
          sequence = (can, use_up.sequence);
          within = λ w. (let a = one w in let b = use_up.within w in omega arith);
          ended = λ w last. (let a = one w in let b = use_up.ended w last in omega arith);
        },
      ))
      (all_used x left) (find x left _ refl)

  pub continued : (x : ℕ → ℕ) (limit : ℕ) (vs : List ℕ) → IsFiringSequence G x vs → IsWithin limit vs → (more : List ℕ)
      × IsWholePlay G x limit (vs ++ more)
  continued x limit vs ok within =
      let rest = used_up (sum_below G.vertices (λ v. limit - counts vs v)) (position_after G x vs)
      (λ v. limit - counts vs v) (omega arith) in
      let more : List ℕ = rest.0 in
      let use_up = rest.1 in (
        more,
        record {
          sequence = sequence-append G vs more x ok use_up.sequence;
          within = λ v. (let a = counts-append vs more v in let b = use_up.within v in let c = within v in omega arith);
          ended = λ v can. (let a = counts-append vs more v in let c = within v in
              omega (arith, use_up.ended v (rw (position-append G vs more x) at can)));
        },
      )
