-- Serves Sums.antt.
-- Sums over the numbers below n, the same sums with a test, and sums over lists of the numbers that pass it.
use Rattle.chip_graph.proofs.Names.{◌≡◌, ◌≢◌, ℕ, zero, suc, ◌+◌, ◌*◌, ◌<◌, ◌≤◌, Bool, true, false, cond, eqb, List}
use Rattle.chip_graph.proofs.Names.{[], ◌∷◌, length, sum, get_or, refl, ap, ◌∙◌, arith, append-nil}
use Rattle.chip_graph.proofs.Names.{eq-eqb, ne_eqb, dite, ℕ_discrete, sum_below, filter_below, nat_tests}
use Rattle.std.specs.List.{sum_by}
use Rattle.std.proofs.lemmas.List.Sums.{sum_by-cons, sum_by_push}

-- ---- choices by a test

-- a choice by whether two numbers are equal, where they are
pub cond_yes : {A : Type 0} (a b : ℕ) (x y : A) → a ≡ b → cond (eqb a b) x y ≡ x
cond_yes a b x y e = ap (λ (t : Bool). cond t x y) (eq-eqb a b e)

-- the same where they are not
pub cond_no : {A : Type 0} (a b : ℕ) (x y : A) → a ≢ b → cond (eqb a b) x y ≡ y
cond_no a b x y e = ap (λ (t : Bool). cond t x y) (ne_eqb a b e)

-- choices that differ only where the test passes, and are equal there
pub cond_same : {A : Type 0} (b : Bool) (x y z : A) → (b ≡ true → x ≡ y) → cond b x z ≡ cond b y z
cond_same b x y z p = grind arith

-- the two cases of a test
pub by_test : {P : Type 0} (b : Bool) → (b ≡ true → P) → (b ≡ false → P) → P
by_test true yes' no' = yes' refl
by_test false yes' no' = no' refl

-- a test counts at most one
pub one_at_most : (b : Bool) → cond b 1 0 ≤ 1
one_at_most b = grind arith

-- ---- sums over the numbers below n

-- equal terms make equal sums
pub sum_below_ext : (n : ℕ) (f h : ℕ → ℕ) → ((e : ℕ) → e < n → f e ≡ h e) → sum_below n f ≡ sum_below n h
sum_below_ext zero f h p = refl
sum_below_ext (suc n) f h p = let a = sum_below_ext n f h (λ e l. p e (omega arith)) in omega (arith, p n)

-- a sum of sums
pub sum_below_add : (n : ℕ) (f h : ℕ → ℕ) → sum_below n (λ e. f e + h e) ≡ sum_below n f + sum_below n h
sum_below_add zero f h = refl
sum_below_add (suc n) f h = let a = sum_below_add n f h in omega arith

-- a common factor
pub sum_below_scale : (n k : ℕ) (f : ℕ → ℕ) → sum_below n (λ e. f e * k) ≡ sum_below n f * k
sum_below_scale zero k f = omega arith
sum_below_scale (suc n) k f = let a = sum_below_scale n k f in omega (arith, Rattle.std.proofs.Common.add-mul)

-- smaller terms make a smaller sum
pub sum_below_le : (n : ℕ) (f h : ℕ → ℕ) → ((e : ℕ) → e < n → f e ≤ h e) → sum_below n f ≤ sum_below n h
sum_below_le zero f h p = omega arith
sum_below_le (suc n) f h p = let a = sum_below_le n f h (λ e l. p e (omega arith)) in omega (arith, p n)

-- a sum of zeros
pub sum_below_none : (n : ℕ) (f : ℕ → ℕ) → ((e : ℕ) → e < n → f e ≡ 0) → sum_below n f ≡ 0
sum_below_none zero f p = refl
sum_below_none (suc n) f p = let a = sum_below_none n f (λ e l. p e (omega arith)) in omega (arith, p n)

-- where the sum is 0, each term is
pub sum_below_zero : (n : ℕ) (f : ℕ → ℕ) → sum_below n f ≡ 0 → (e : ℕ) → e < n → f e ≡ 0
sum_below_zero zero f z e l = absurd (omega arith)
sum_below_zero (suc n) f z e l = let rest = sum_below_zero n f in grind (arith, nat_tests)

-- a term is at most the sum
pub sum_below_term : (n : ℕ) (f : ℕ → ℕ) (e : ℕ) → e < n → f e ≤ sum_below n f
sum_below_term zero f e l = absurd (omega arith)
sum_below_term (suc n) f e l = let rest = sum_below_term n f e in grind (arith, nat_tests)

-- a longer sum is no smaller
pub sum_below_upto : (f : ℕ → ℕ) (n m : ℕ) → n ≤ m → sum_below n f ≤ sum_below m f
sum_below_upto f n zero le = let z : n ≡ 0 = omega arith in rw z (omega arith)
sum_below_upto f n (suc m) le = dite (ℕ_discrete n (suc m)) (λ same. rw same (omega arith))
    (λ other. omega (arith, sum_below_upto f n m (omega arith)))

-- sums that differ at one place
pub sum_below_move : (n : ℕ) (f h : ℕ → ℕ) (j : ℕ) → j < n → ((e : ℕ) → e < n → e ≢ j → f e ≡ h e)
    → sum_below n f + h j ≡ sum_below n h + f j
sum_below_move zero f h j l p = absurd (omega arith)
sum_below_move (suc n) f h j l p = dite (ℕ_discrete j n)
    (λ same. let a = sum_below_ext n f h (λ e m. p e (omega arith) (omega arith)) in grind arith)
    (λ other. let a = sum_below_move n f h j (omega arith) (λ e m. p e (omega arith)) in grind arith)

-- a sum is that of its front and its rest
pub sum_below_split : (m n : ℕ) (f : ℕ → ℕ) → sum_below (m + n) f ≡ sum_below m f + sum_below n (λ i. f (m + i))
sum_below_split m zero f = let z : m + zero ≡ m = omega arith in rw z (omega arith)
sum_below_split m (suc n) f = let z : m + suc n ≡ suc (m + n) = omega arith in let a = sum_below_split m n f in
    rw z (omega arith)

-- a sum with one term
pub sum_below_one : (n : ℕ) (f : ℕ → ℕ) (j : ℕ) → j < n → ((e : ℕ) → e < n → e ≢ j → f e ≡ 0) → sum_below n f ≡ f j
sum_below_one n f j l p = let a = sum_below_move n f (λ e. 0) j l p in let b = sum_below_none n (λ e. 0) (λ e m. refl)
    in omega arith

-- each of m things is at one place below n, so the sums by place add up to the sum over all
pub sum_below_by_place : (n m : ℕ) (h : ℕ → ℕ) (place : ℕ → ℕ) → ((e : ℕ) → e < m → place e < n)
    → sum_below n (λ u. sum_below m (λ e. cond (eqb (place e) u) (h e) 0)) ≡ sum_below m h
sum_below_by_place n zero h place inside = sum_below_none n (λ u. 0) (λ u l. refl)
sum_below_by_place n (suc m) h place inside =
    let a = sum_below_add n (λ u. sum_below m (λ e. cond (eqb (place e) u) (h e) 0))
    (λ u. cond (eqb (place m) u) (h m) 0) in
    let b = sum_below_by_place n m h place (λ e l. inside e (omega arith)) in
    let c = sum_below_one n (λ u. cond (eqb (place m) u) (h m) 0) (place m) (inside m (omega arith))
    (λ u l ne. grind (arith, nat_tests)) in
    omega (arith, cond_yes (place m) (place m) (h m) 0 refl)

-- the first term, and the others
pub sum_below_first : (n : ℕ) (f : ℕ → ℕ) → sum_below (suc n) f ≡ f 0 + sum_below n (λ i. f (suc i))
sum_below_first zero f = omega arith
sum_below_first (suc n) f = let a = sum_below_first n f in omega arith

-- the sum of a list is the sum over its places
pub sum_by_place : (xs : List ℕ) → sum xs ≡ sum_below (length xs) (λ i. get_or xs i 0)
sum_by_place [] = refl
sum_by_place (x ∷ xs) = let a = sum_below_first (length xs) (λ i. get_or (x ∷ xs) i 0) in
    let b = sum_by_place xs in omega (arith, sum_by-cons (λ y. y) x xs)

-- ---- sums with a test: a term counts where the test passes, else it is 0

module _ (n : ℕ) (t : ℕ → Bool) where
  -- equal terms where the test passes
  pub tested_ext : (f h : ℕ → ℕ) → ((e : ℕ) → e < n → t e ≡ true → f e ≡ h e)
      → sum_below n (λ e. cond (t e) (f e) 0) ≡ sum_below n (λ e. cond (t e) (h e) 0)
  tested_ext f h p = sum_below_ext n _ _ (λ e l. cond_same (t e) (f e) (h e) 0 (p e l))

  -- a sum of sums
  pub tested_add : (f h : ℕ → ℕ)
      → sum_below n (λ e. cond (t e) (f e + h e) 0) ≡ sum_below n (λ e. cond (t e) (f e) 0) + sum_below n
      (λ e. cond (t e) (h e) 0)
  tested_add f h = sum_below_ext n _ (λ e. cond (t e) (f e) 0 + cond (t e) (h e) 0) (λ e l. grind arith)
      ∙ sum_below_add n (λ e. cond (t e) (f e) 0) (λ e. cond (t e) (h e) 0)

  -- a common factor
  pub tested_scale : (k : ℕ) (f : ℕ → ℕ)
      → sum_below n (λ e. cond (t e) (f e * k) 0) ≡ sum_below n (λ e. cond (t e) (f e) 0) * k
  tested_scale k f = sum_below_ext n _ (λ e. cond (t e) (f e) 0 * k) (λ e l. grind arith)
      ∙ sum_below_scale n k (λ e. cond (t e) (f e) 0)

  -- smaller terms where the test passes
  pub tested_le : (f h : ℕ → ℕ) → ((e : ℕ) → e < n → t e ≡ true → f e ≤ h e)
      → sum_below n (λ e. cond (t e) (f e) 0) ≤ sum_below n (λ e. cond (t e) (h e) 0)
  tested_le f h p = sum_below_le n _ _ (λ e l. let q = p e l in grind arith)

  -- zeros where the test passes
  pub tested_none : (f : ℕ → ℕ) → ((e : ℕ) → e < n → t e ≡ true → f e ≡ 0) → sum_below n (λ e. cond (t e) (f e) 0) ≡ 0
  tested_none f p = sum_below_none n _ (λ e l. let q = p e l in grind arith)

  -- where the sum is 0, each term that passes is
  pub tested_zero : (f : ℕ → ℕ) → sum_below n (λ e. cond (t e) (f e) 0) ≡ 0 → (e : ℕ) → e < n → t e ≡ true → f e ≡ 0
  tested_zero f z e l on = let a = sum_below_zero n (λ e. cond (t e) (f e) 0) z e l in grind arith

  -- a term that passes is at most the sum
  pub tested_term : (f : ℕ → ℕ) (e : ℕ) → e < n → t e ≡ true → f e ≤ sum_below n (λ e. cond (t e) (f e) 0)
  tested_term f e l on = let a = sum_below_term n (λ e. cond (t e) (f e) 0) e l in grind arith

  -- sums that differ at one place that passes
  pub tested_move : (f h : ℕ → ℕ) (j : ℕ) → j < n → t j ≡ true → ((e : ℕ) → e < n → e ≢ j → t e ≡ true → f e ≡ h e)
      → sum_below n (λ e. cond (t e) (f e) 0) + h j ≡ sum_below n (λ e. cond (t e) (h e) 0) + f j
  tested_move f h j l on p =
      let a = sum_below_move n (λ e. cond (t e) (f e) 0) (λ e. cond (t e) (h e) 0) j l
      (λ e m ne. cond_same (t e) (f e) (h e) 0 (p e m ne)) in grind arith

-- terms that count where a test passes, each at most c
pub sum_small : (n c : ℕ) (test : ℕ → Bool) (f : ℕ → ℕ) → ((e : ℕ) → e < n → f e ≤ c)
    → sum_below n (λ e. cond (test e) (f e) 0) ≤ n * c
sum_small zero c test f small = omega arith
sum_small (suc n) c test f small =
    let a = sum_small n c test f (λ e l. small e (omega arith)) in let b = small n (omega arith) in grind arith

-- ---- the numbers that pass a test, as a list

-- a sum over the list of those that pass is the sum with the test
pub picked_sum : (f : ℕ → ℕ) (test : ℕ → Bool) (n : ℕ)
    → sum_by f (filter_below test n) ≡ sum_below n (λ e. cond (test e) (f e) 0)
picked_sum f test zero = refl
picked_sum f test (suc n) = let rest = picked_sum f test n in grind (arith, sum_by_push, append-nil)
