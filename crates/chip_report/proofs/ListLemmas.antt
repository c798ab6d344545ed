-- Serves OutcomeParts.antt.
-- Ascending lists of numbers: how a program tests them and searches in them.
use Rattle.chip_report.proofs.Names.{◌≡◌, ℕ, zero, suc, ◌+◌, ◌<◌, ◌≤◌, Bool, true, false, nat_lt, List, length, get_or}
use Rattle.chip_report.proofs.Names.{Result, Ok, Err, refl, sym, ◌∙◌, arith, lt-ltb, ltb-true, add-one, All, Contains}
use Rattle.chip_report.proofs.Names.{slice_index, IsAllAdjacentAnswer, IsStrictlyIncreasing, IsNonDecreasing}
use Rattle.chip_report.proofs.Names.{IsBinarySearchResult, nat_cmp, is_ok, AreDisjoint, false≢true, get_or_default_zero}
use Rattle.std.proofs.lemmas.List.Sorted.{searched, IsNonDecreasingBy-from_all_adjacent}

-- what `is_sorted_by` returns for `<`
pub ascends_if : (xs : List ℕ) (r : Bool) → IsAllAdjacentAnswer (λ x y b. b ≡ nat_lt x y) xs r → r ≡ true
    → IsStrictlyIncreasing xs
ascends_if xs true h is = λ k l. ltb-true _ _ (sym (h k 0 l))
ascends_if xs false h is = absurd cc

pub ascends_then : (xs : List ℕ) (r : Bool) → IsAllAdjacentAnswer (λ x y b. b ≡ nat_lt x y) xs r
    → IsStrictlyIncreasing xs → r ≡ true
ascends_then xs true h up = refl
ascends_then xs false h up = h.2 0 ∙ lt-ltb _ _ (up h.0 h.1)

does_not_fall : (xs : List ℕ) → IsStrictlyIncreasing xs → IsNonDecreasing xs
does_not_fall xs up = IsNonDecreasingBy-from_all_adjacent (λ x. x) xs (λ k d l.
    let one = get_or_default_zero xs k d (omega arith) in
    let next = get_or_default_zero xs (k + 1) d l in
    let rise = up k l in
    omega arith)

-- an ascending list of numbers below n has no more than n
at_least : (xs : List ℕ) → IsStrictlyIncreasing xs → (k : ℕ) → k < length xs → k ≤ get_or xs k 0
at_least xs up zero l = omega arith
at_least xs up (suc k) l =
    let low : k ≤ get_or xs k 0 = at_least xs up k (omega arith) in
    let rise = up k (omega arith) in
    rw (← add-one) (omega arith)

pub few_below : (xs : List ℕ) (n : ℕ) → IsStrictlyIncreasing xs → All (λ x. x < n) xs → length xs ≤ n
few_below xs n up below = let low = at_least xs up n in let high = below n 0 in grind arith

-- what `binary_search` finds in an ascending list
pub found_if : (xs : List ℕ) (x : ℕ) (r : Result ℕ ℕ) → IsBinarySearchResult (λ y. nat_cmp y x) xs r
    → IsStrictlyIncreasing xs → is_ok r ≡ true → Contains xs x
found_if xs x (Ok i) h up is =
    let at = searched xs x (Ok i) h (λ i j le l. does_not_fall xs up i j 0 le l) in
    (i, at.0, get_or_default_zero xs i x at.0 ∙ at.1)
found_if xs x (Err i) h up is = absurd (false≢true is)

pub found_then : (xs : List ℕ) (x : ℕ) (r : Result ℕ ℕ) → IsBinarySearchResult (λ y. nat_cmp y x) xs r
    → IsStrictlyIncreasing xs → Contains xs x → is_ok r ≡ true
found_then xs x (Ok i) h up c = refl
found_then xs x (Err i) h up c =
    let at = searched xs x (Err i) h (λ i j le l. does_not_fall xs up i j 0 le l) in
    let is : get_or xs c.0 0 ≡ x = sym (get_or_default_zero xs c.0 x c.1) ∙ c.2 in
    let below = at.1 c.0 in let above = at.2 c.0 in let within = c.1 in absurd (grind arith)

-- ---- no number in both of two lists, as far as place i of the first

abbrev pub ApartBelow : List ℕ → List ℕ → ℕ → Type 0
ApartBelow over sealed i = (k : ℕ) → k < i → Contains sealed (slice_index over k) → ⊥

pub AreApart-from_below : (over sealed : List ℕ) (i : ℕ) → length over ≤ i → ApartBelow over sealed i
    → AreDisjoint over sealed
AreApart-from_below over sealed i all below v in_over in_sealed =
    let is : v ≡ slice_index over in_over.0 = sym in_over.2 ∙ get_or_default_zero over in_over.0 v in_over.1 in
    below in_over.0 (omega (arith, in_over.1)) (rw is at in_sealed)
