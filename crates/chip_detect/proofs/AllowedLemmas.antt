-- Serves Acknowledging.antt.
-- The rule of acknowledging, over plain arguments.
use Rattle.std.proofs.Common.{◌≡◌, ◌≢◌, ℕ, ◌-◌, ◌<◌, ◌≤◌, Bool, true, false, Option, Some, None, refl, subst, inl, inr}
use Rattle.std.proofs.Common.{arith}
use Rattle.std.proofs.lemmas.Bool.Decides.{nat_tests, eqb_tells}
use Rattle.chip_detect.specs.Acknowledging.{acknowledgeable_count, parent_while_owed}

-- never more than is owed
pub within_owed : (e : ℕ) (parent : Option ℕ) (here all waiting : ℕ) (passive : Bool)
    → acknowledgeable_count e parent here all waiting passive ≤ here
within_owed e None here all waiting passive = omega arith
within_owed e (Some p) here all waiting true = grind (arith, nat_tests)
within_owed e (Some p) here all waiting false = grind (arith, nat_tests)

-- all that is owed on the parent edge, only if the vertex is done
pub all_when_done : (e here all waiting : ℕ) (passive : Bool) → 0 < here
    → here ≤ acknowledgeable_count e (Some e) here all waiting passive → (all ≡ here) × (passive ≡ true) × (waiting ≡ 0)
all_when_done e here all waiting true owing allowed = grind (arith, nat_tests)
all_when_done e here all waiting false owing allowed = absurd (grind (arith, nat_tests))

-- an active vertex keeps one
pub active_keeps_one : (e here all waiting : ℕ) → acknowledgeable_count e (Some e) here all waiting false ≡ here - 1
active_keeps_one e here all waiting = grind (arith, nat_tests)

-- one message alone is kept on the parent edge, unless the vertex is done
pub one_is_kept : (e here all waiting : ℕ) (passive : Bool) → here ≡ 1 → (passive ≡ true → waiting ≢ 0)
    → acknowledgeable_count e (Some e) here all waiting passive ≡ 0
one_is_kept e here all waiting true one undone = grind (arith, nat_tests, undone refl)
one_is_kept e here all waiting false one undone = grind (arith, nat_tests)

-- a parent that stays is owed something, and is unchanged
pub stays_owed : (parent : Option ℕ) (owes : ℕ → ℕ) (p : ℕ) → parent_while_owed parent owes ≡ Some p
    → (parent ≡ Some p) × (0 < owes p)
stays_owed None owes p same = cc
stays_owed (Some q) owes p same = elim (eqb_tells (owes q) 0) [
  | inl (unowed, zero) ↦ absurd (none_is_some p (rw unowed at same))
  | inr (owing, above) ↦ let is : Some q ≡ Some p = rw owing at same in
      (is, (let one : q ≡ p = cc in let there : 0 < owes q = omega arith in subst (λ (r : ℕ). 0 < owes r) one there))
]
  where
    none_is_some : (p : ℕ) → None ≡ Some p → ⊥
    none_is_some p same = cc

-- a parent that goes is owed nothing
pub goes_unowed : (q : ℕ) (owes : ℕ → ℕ) → parent_while_owed (Some q) owes ≡ None → owes q ≡ 0
goes_unowed q owes same = grind (arith, nat_tests)
