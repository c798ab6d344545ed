-- Serves Ends.antt.
-- The ends beside the numbers of edges, found by a number.
use Rattle.chip_actor.proofs.Names.{nat_tests, ◌≡◌, ℕ, zero, suc, ◌<◌, cond, eqb, List, [], ◌∷◌, length, map, get_or}
use Rattle.chip_actor.proofs.Names.{set, refl, sym, ◌∙◌, arith, Contains, IsStrictlyIncreasing, get_or_default}
use Rattle.chip_actor.proofs.Names.{cond_yes, Ascends, ascends, ascends_tail, not_in_front, on_edge}

-- the end at a place
pub on_edge_at : {T : Type 0} (none : T) (xs : List ℕ) (ts : List T) (i : ℕ) (d : T) → Ascends xs
    → length ts ≡ length xs → i < length xs → on_edge none xs ts (get_or xs i 0) ≡ get_or ts i d
on_edge_at none [] ts i d up same l = absurd (omega arith)
on_edge_at none (x ∷ xs) [] i d up same l = absurd (omega arith)
on_edge_at none (x ∷ xs) (t ∷ ts) zero d up same l = cond_yes x x t (on_edge none xs ts x) refl
on_edge_at none (x ∷ xs) (t ∷ ts) (suc i) d up same l =
    let ih = on_edge_at none xs ts i d (ascends_tail x xs up) (omega arith) (omega arith) in
    let other = not_in_front x xs i up (omega arith) in grind (arith, nat_tests)

-- one end is written
pub on_edge_set : {T : Type 0} (none : T) (xs : List ℕ) (ts : List T) (i : ℕ) (t : T) (e : ℕ) → Ascends xs
    → length ts ≡ length xs → i < length xs
    → on_edge none xs (set ts i t) e ≡ cond (eqb (get_or xs i 0) e) t (on_edge none xs ts e)
on_edge_set none [] ts i n e up same l = absurd (omega arith)
on_edge_set none (x ∷ xs) [] i n e up same l = absurd (omega arith)
on_edge_set none (x ∷ xs) (c ∷ cs) zero n e up same l = grind (arith, nat_tests)
on_edge_set none (x ∷ xs) (c ∷ cs) (suc i) n e up same l =
    let ih = on_edge_set none xs cs i n e (ascends_tail x xs up) (omega arith) (omega arith) in
    let other = not_in_front x xs i up (omega arith) in grind (arith, nat_tests)

-- one end is changed by f
pub on_edge_changed : {T : Type 0} (none : T) (xs : List ℕ) (ts : List T) (i e : ℕ) (d new : T) (f : T → T)
    → IsStrictlyIncreasing xs → length ts ≡ length xs → i < length xs → get_or xs i 0 ≡ e → new ≡ f (get_or ts i d)
    → (j : ℕ) → on_edge none xs (set ts i new) j ≡ cond (eqb e j) (f (on_edge none xs ts j)) (on_edge none xs ts j)
on_edge_changed none xs ts i e d new f rising same l at is j =
    let up = ascends xs rising in
    let set' = on_edge_set none xs ts i new j up same l in let was = on_edge_at none xs ts i d up same l in
    grind (arith, nat_tests)

-- all ends are changed by f
pub on_edge_map : {T : Type 0} (none : T) (f : T → T) (xs : List ℕ) (ts : List T) (e : ℕ) → length ts ≡ length xs
    → Contains xs e → on_edge none xs (map f ts) e ≡ f (on_edge none xs ts e)
on_edge_map {T} none f xs ts e same (k, l, at) = by_place xs ts k same l (sym (get_or_default xs k e 0 l) ∙ at)
  where
    by_place : (xs : List ℕ) (ts : List T) (k : ℕ) → length ts ≡ length xs → k < length xs → get_or xs k 0 ≡ e
        → on_edge none xs (map f ts) e ≡ f (on_edge none xs ts e)
    by_place [] ts k same l at = absurd (omega arith)
    by_place (x ∷ xs) [] k same l at = absurd (omega arith)
    by_place (x ∷ xs) (t ∷ ts) zero same l at = grind (arith, nat_tests)
    by_place (x ∷ xs) (t ∷ ts) (suc k) same l at =
        let ih = by_place xs ts k (omega arith) (omega arith) at in grind (arith, nat_tests)
