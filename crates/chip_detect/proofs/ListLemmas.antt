-- Serves Books.antt.
-- What a list has, by its first element, and the two cases of an option.
use Rattle.std.proofs.Common.{◌≡◌, ◌⊎◌, ℕ, zero, suc, ◌≤◌, cond, eqb, List, [], ◌∷◌, length, Option, Some, None, Contains}
use Rattle.std.proofs.Common.{refl, sym, arith, inl, inr, ⊎_elim, is_some, Bool, false}
use Rattle.std.proofs.lemmas.Bool.Decides.{nat_tests}
use mathlib.Core.Logic.{dite}
use native.Mathlib.Decide.{ℕ_discrete}

pub contains_first : {X : Type 0} (x : X) (xs : List X) → Contains (x ∷ xs) x
contains_first x xs = (0, omega arith, refl)

pub contains_later : {X : Type 0} (x : X) (xs : List X) (y : X) → Contains xs y → Contains (x ∷ xs) y
contains_later x xs y (k, l, is) = (suc k, omega arith, is)

pub contains_nothing : (v : ℕ) → Contains [] v → ⊥
contains_nothing v (k, l, is) = omega arith

-- what is in a list is in front or in the rest
pub contains_cases : {X : Type 0} (x : X) (xs : List X) (y : X) → Contains (x ∷ xs) y → (y ≡ x) ⊎ Contains xs y
contains_cases x xs y (zero, l, is) = inl (sym is)
contains_cases x xs y (suc k, l, is) = inr (k, omega arith, is)

pub contained : (vs : List ℕ) (v : ℕ) → (Contains vs v) ⊎ (Contains vs v → ⊥)
contained [] v = inr (contains_nothing v)
contained (u ∷ us) v = dite (ℕ_discrete v u)
    (λ e. inl (rw e (contains_first u us)))
    (λ ne. ⊎_elim (λ m. inl (contains_later u us v m)) (λ out. inr (λ z. ⊎_elim ne out (contains_cases u us v z)))
    (contained us v))

-- the number of elements from the first v on, 0 if there is none
unfoldable pub place_in : List ℕ → ℕ → ℕ
place_in [] v = 0
place_in (u ∷ us) v = cond (eqb v u) (suc (length us)) (place_in us v)

pub few_places : (vs : List ℕ) (v : ℕ) → place_in vs v ≤ length vs
unfolding place_in
few_places [] v = omega arith
few_places (u ∷ us) v = grind (arith, nat_tests, few_places us v)

pub cases_option : (o : Option ℕ) → (o ≡ None) ⊎ ((q : ℕ) × (o ≡ Some q))
cases_option None = inl refl
cases_option (Some q) = inr (q, refl)

pub not_some : (o : Option ℕ) → is_some o ≡ false → o ≡ None
not_some None is = refl
not_some (Some q) is = absurd (cc)

pub none_some : (q : ℕ) (o : Option ℕ) → o ≡ None → o ≡ Some q → ⊥
none_some q o a b = absurd (cc)
