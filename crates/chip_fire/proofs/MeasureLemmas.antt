-- Serves Measured.antt.
-- The row of a drop.
use Rattle.std.proofs.Common.{◌≡◌, ℕ, ◌+◌, ◌-◌, ◌<◌, ◌≤◌, ◌⊎◌, ⊎_elim, inl, inr, eqb, not, min, List, [], ◌∷◌, ◌++◌}
use Rattle.std.proofs.Common.{length, map, get_or, set, take, drop, refl, sym, subst, arith}
use Rattle.std.proofs.Common.{get_or-set_same, get_or-set_other, Bool, true, false, drop-cons, add-one}
use Rattle.std.proofs.lemmas.Bool.Decides.{nat_tests}
use Rattle.std.proofs.lemmas.List.{take_more_set, take-set, map-append, drop-set-lt, get_or-take, length-take-le}
use Rattle.std.proofs.Math.Seq.{take-set-lt}
use mir.Val.{bool_byte}
use mathlib.Core.Logic.{dite}
use native.Mathlib.Decide.{ℕ_discrete}
use Rattle.chip_sequence.specs.Sequence.{counts}
use Rattle.chip_sequence.proofs.FiringLemmas.{counts-append}
use Rattle.chip_fire.specs.Measured.{IsRow}
use Rattle.chip_fire.specs.WorkList.{HasSupport}
use Rattle.std.proofs.lemmas.List.Elements.{All-head}

-- ---- the row of a drop, vertex by vertex

-- the counts now are at each vertex those before or those after the drop, and the row has each vertex with the latter
-- that fired
pub record IsTallied (before now fired vertices times : List ℕ) : Type 0 where
  pub once : (v : ℕ) → counts vertices v ≡ min (get_or now v 0 - get_or before v 0) 1
  pub times_are : times ≡ map (λ v. get_or fired v 0 - get_or before v 0) vertices
  pub either : (v : ℕ) → (get_or now v 0 ≡ get_or before v 0) ⊎ (get_or now v 0 ≡ get_or fired v 0)

-- none yet
pub tallied_none : (before fired : List ℕ) → IsTallied before before fired [] []
tallied_none before fired = record {
  once = λ v. omega arith;
  times_are = refl;
  either = λ v. inl refl;
}

-- all
pub tallied_row : (before fired vertices times : List ℕ) → IsTallied before fired fired vertices times
    → IsRow (λ v. get_or fired v 0 - get_or before v 0) vertices times
tallied_row before fired vertices times so_far = record { once = so_far.once; times_are = so_far.times_are }

module _ (before now fired : List ℕ) (v : ℕ) (inside : v < length now) where
  -- the counts with the later one of v
  abbrev then' : List ℕ
  then' = set now v (get_or fired v 0)

  either_then : ((u : ℕ) → (get_or now u 0 ≡ get_or before u 0) ⊎ (get_or now u 0 ≡ get_or fired u 0)) → (u : ℕ)
      → (get_or then' u 0 ≡ get_or before u 0) ⊎ (get_or then' u 0 ≡ get_or fired u 0)
  either_then either u = dite (ℕ_discrete u v)
      (λ e. inr (subst (λ (w : ℕ). get_or then' w 0 ≡ get_or fired w 0) (sym e)
      (get_or-set_same now v (get_or fired v 0) 0 inside)))
      (λ ne. rw (get_or-set_other now v u (get_or fired v 0) 0 ne) (either u))

  -- a vertex that did not fire since then
  tallied_same : (vertices times : List ℕ) → IsTallied before now fired vertices times
      → get_or fired v 0 - get_or now v 0 ≡ 0 → IsTallied before then' fired vertices times
  tallied_same vertices times so_far none = record {
    once = λ u. dite (ℕ_discrete u v)
        (λ e. subst (λ (w : ℕ). counts vertices w ≡ min (get_or then' w 0 - get_or before w 0) 1) (sym e)
        (let a = so_far.once v in let b = get_or-set_same now v (get_or fired v 0) 0 inside in
        ⊎_elim (λ same. let c : get_or now v 0 ≡ get_or before v 0 = same in omega arith)
        (λ late. let c : get_or now v 0 ≡ get_or fired v 0 = late in omega arith) (so_far.either v)))
        (λ ne. rw (get_or-set_other now v u (get_or fired v 0) 0 ne) (so_far.once u));
    times_are = so_far.times_are;
    either = either_then so_far.either;
  }

  -- one that fired
  tallied_more : (vertices times : List ℕ) → IsTallied before now fired vertices times
      → (more : ℕ) → more ≡ get_or fired v 0 - get_or now v 0 → 0 < more
      → IsTallied before then' fired (vertices ++ v ∷ []) (times ++ more ∷ [])
  tallied_more vertices times so_far more is some =
      let was : get_or now v 0 ≡ get_or before v 0 =
      ⊎_elim (λ same. same) (λ late. absurd (let a : get_or now v 0 ≡ get_or fired v 0 = late in omega arith)) (so_far.either v) in
      record {
        once = λ u. (let a = counts-append vertices (v ∷ []) u in let b = so_far.once u in dite (ℕ_discrete u v)
            (λ e. subst (λ (w : ℕ). counts (vertices ++ v ∷ []) w ≡ min (get_or then' w 0 - get_or before w 0) 1) (sym e)
            (let c = counts-append vertices (v ∷ []) v in let d = so_far.once v in
            let h = get_or-set_same now v (get_or fired v 0) 0 inside in grind (arith, nat_tests)))
            (λ ne. rw (get_or-set_other now v u (get_or fired v 0) 0 ne) (grind (arith, nat_tests))));
        times_are = rw (map-append (λ u. get_or fired u 0 - get_or before u 0) vertices (v ∷ []), so_far.times_are, is, was) refl;
        either = either_then so_far.either;
      }

  -- both in one
  pub tallied_step : (e more : ℕ) (vs ts : List ℕ) → e < length vs → e < length ts
      → more ≡ get_or fired v 0 - get_or now v 0 → IsTallied before now fired (take e vs) (take e ts)
      → (b : Bool) → not (eqb more 0) ≡ b
      → IsTallied before then' fired (take (e + bool_byte b) (set vs e v)) (take (e + bool_byte b) (set ts e more))
  tallied_step e more vs ts in_vs in_ts is so_far true some =
      rw (take_more_set vs e v in_vs, take_more_set ts e more in_ts)
      (tallied_more (take e vs) (take e ts) so_far more is (grind (arith, nat_tests)))
  tallied_step e more vs ts in_vs in_ts is so_far false none =
      let same : e + 0 ≡ e = omega arith in
      let zero : more ≡ 0 = grind (arith, nat_tests) in
      rw (same, take-set, take-set) (tallied_same (take e vs) (take e ts) so_far (omega arith))

-- ---- the support of a drop, vertex by vertex

-- the next of the first m
pub next_of : (vs : List ℕ) (m i : ℕ) → i < m → m ≤ length vs → drop i (take m vs) ≡ get_or vs i 0 ∷ drop (i + 1) (take m vs)
next_of vs m i inside fits =
    let long = length-take-le m vs fits in
    let here = get_or-take m vs i 0 inside in
    rw (← here) (rw add-one (drop-cons (take m vs) i 0 (omega arith)))

-- those after it stay if one up to it is written
pub rest_stays : (vs : List ℕ) (m i e v : ℕ) → e ≤ i → i < m → drop (i + 1) (take m (set vs e v)) ≡ drop (i + 1) (take m vs)
rest_stays vs m i e v front inside =
    rw (take-set-lt m vs e v (omega arith)) (drop-set-lt (i + 1) (take m vs) e v (omega arith))

-- a test counts one at most
pub byte_fits : (b : Bool) → bool_byte b ≤ 1
byte_fits true = omega arith
byte_fits false = omega arith

-- a vertex that is next in the support is one
pub next_supported : (n : ℕ) (before fired vs : List ℕ) (m i : ℕ) → HasSupport n before fired (drop i (take m vs)) → i < m
    → m ≤ length vs → get_or vs i 0 < n
next_supported n before fired vs m i so_far inside fits =
    let next = rw (next_of vs m i inside fits) at so_far.vertices in All-head (λ (u : ℕ). u < n) _ _ next
