-- Serves Tally.antt.
-- Tallies by index, looked up by the number of an edge.
use Rattle.std.proofs.Common.{◌≡◌, ℕ, zero, suc, ◌<◌, ◌≢◌, eqb, if◌then◌else◌, List, [], ◌∷◌, length, get_or, set, ◌⊎◌}
use Rattle.std.proofs.Common.{refl, sym, ◌∙◌, inl, inr, arith}
use Rattle.std.specs.List.{Contains}
use Rattle.std.specs.List.Sorted.{IsStrictlyIncreasing}
use Rattle.std.proofs.lemmas.List.{length-map, get_or_default}
use Rattle.std.proofs.lemmas.List.Kept.{AllPairs-from_increasing}
use Rattle.std.proofs.lemmas.Bool.Decides.{nat_tests, eqb_tells}
use Rattle.chip_detect.specs.Slot.{Slot, IsSlotOf}
use Rattle.chip_detect.specs.Tally.{Tally, edges_of, look}

-- each number is below all later ones
abbrev pub Ascends : List ℕ → Type 0
Ascends xs = (i j : ℕ) → i < j → j < length xs → get_or xs i 0 < get_or xs j 0

pub ascends : (xs : List ℕ) → IsStrictlyIncreasing xs → Ascends xs
ascends xs rising i j = AllPairs-from_increasing xs rising i j 0

pub ascends_tail : (x : ℕ) (xs : List ℕ) → Ascends (x ∷ xs) → Ascends xs
ascends_tail x xs up i j lt in_range = up (suc i) (suc j) (omega arith) (omega arith)

-- the number in front is none of the others
pub not_in_front : (x : ℕ) (xs : List ℕ) (i : ℕ) → Ascends (x ∷ xs) → i < length xs → get_or xs i 0 ≢ x
not_in_front x xs i up in_range same = omega (arith, up 0 (suc i) (omega arith) (omega arith))

-- the edge of a slot is among them
pub slot_among : (xs : List ℕ) (slot : Slot) → IsSlotOf xs slot → Contains xs slot.edge
slot_among xs slot is = (slot.index, is.within, sym (get_or_default xs slot.index 0 slot.edge is.within) ∙ is.edge)

-- the look-up of an edge reads the tally at its index
pub look_at : (f : Tally → ℕ) (ts : List Tally) (i : ℕ) (d : Tally) → Ascends (edges_of ts) → i < length ts
    → look f ts (get_or (edges_of ts) i 0) ≡ f (get_or ts i d)
look_at f [] i d up in_range = absurd (omega arith)
look_at f (t ∷ ts) zero d up in_range = grind (arith, nat_tests)
look_at f (t ∷ ts) (suc i) d up in_range =
    let other = not_in_front t.edge (edges_of ts) i up (omega (arith, length-map ts (λ t. t.edge))) in
    let rest = look_at f ts i d (ascends_tail t.edge (edges_of ts) up) (omega arith) in
    grind (arith, nat_tests)

-- writing a tally changes only the look-up of its edge
pub look_set : (f : Tally → ℕ) (ts : List Tally) (i : ℕ) (u : Tally) (e : ℕ) → Ascends (edges_of ts) → i < length ts
    → u.edge ≡ get_or (edges_of ts) i 0 → look f (set ts i u) e ≡ (if eqb u.edge e then f u else look f ts e)
look_set f [] i u e up in_range same = absurd (omega arith)
look_set f (t ∷ ts) zero u e up in_range same = grind (arith, nat_tests)
look_set f (t ∷ ts) (suc i) u e up in_range same =
    let other = not_in_front t.edge (edges_of ts) i up (omega (arith, length-map ts (λ t. t.edge))) in
    let rest = look_set f ts i u e (ascends_tail t.edge (edges_of ts) up) (omega arith) same in
    grind (arith, nat_tests)

-- an edge has an index, or its look-up gives 0
pub absent_or_at : (ts : List Tally) (e : ℕ) → ((f : Tally → ℕ) → look f ts e ≡ 0)
    ⊎ ((i : ℕ) × (i < length (edges_of ts)) × (get_or (edges_of ts) i 0 ≡ e))
absent_or_at [] e = inl (λ f. refl)
absent_or_at (t ∷ ts) e = elim (eqb_tells t.edge e) [
  | inl (test, same) ↦ inr (0, omega arith, same)
  | inr (test, other) ↦ elim (absent_or_at ts e) [
    | inl absent ↦ inl (λ f. rw test (absent f))
    | inr (i, in_range, at) ↦ inr (suc i, omega arith, at)
  ]
]
