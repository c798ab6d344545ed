-- Serves Log.antt.
-- Counts of rows as they grow.
use Rattle.chip_log.proofs.Names.{◌≡◌, ◌≢◌, ℕ, ◌+◌, ◌≤◌, Bool, true, false, List, [], ◌∷◌, ◌++◌, length, refl}
use Rattle.chip_log.proofs.Names.{ap, arith, cond, eq-eqb, append-nil, map, ne_eqb, length-map, map-append}
use Rattle.chip_log.proofs.Names.{steps_of, same_stream, count_steps, count_rows, nat_tests, active_after}
use Rattle.chip_log.proofs.Names.{LogRow, Step, In, Passive, Stream}
use Rattle.chip_log.proofs.PrefixLemmas.{longer_beginning}

pub count-append : (test : Step → Bool) (xs ys : List Step)
    → count_steps test (xs ++ ys) ≡ count_steps test xs + count_steps test ys
count-append test [] ys = omega arith
count-append test (x ∷ xs) ys = let a = count-append test xs ys in omega arith

pub rows-append : (test : Step → Bool) (xs ys : List LogRow)
    → count_rows test (xs ++ ys) ≡ count_rows test xs + count_rows test ys
rows-append test xs ys = simp (map-append, count-append)

count_few : (test : Step → Bool) (steps : List Step) → count_steps test steps ≤ length steps
count_few test [] = omega arith
count_few test (step ∷ steps) = let a = count_few test steps in grind arith

pub rows_few : (test : Step → Bool) (xs : List LogRow) → count_rows test xs ≤ length xs
rows_few test xs = let a = count_few test (map (λ x. x.step) xs) in let b = length-map xs (λ x. x.step) in omega arith

pub steps_of-append : (p : ℕ) (xs ys : List LogRow) → steps_of p (xs ++ ys) ≡ steps_of p xs ++ steps_of p ys
steps_of-append p [] ys = refl
steps_of-append p (x ∷ xs) ys = let a = steps_of-append p xs ys in grind (arith, nat_tests)

pub active_after-append : (b : Bool) (xs ys : List Step) → active_after b (xs ++ ys) ≡ active_after (active_after b xs) ys
active_after-append b [] ys = refl
active_after-append b (In s ∷ xs) ys = active_after-append (cond s.is_control b true) xs ys
active_after-append b (Passive ∷ xs) ys = active_after-append false xs ys
active_after-append b (_ ∷ xs) ys = active_after-append b xs ys

-- ---- whose rows

pub steps_own : (p : ℕ) (x : LogRow) (xs : List LogRow) → x.process ≡ p → steps_of p (x ∷ xs) ≡ x.step ∷ steps_of p xs
steps_own p x xs e = rw (eq-eqb x.process p e)

pub steps_other : (p : ℕ) (x : LogRow) (xs : List LogRow) → x.process ≢ p → steps_of p (x ∷ xs) ≡ steps_of p xs
steps_other p x xs e = rw (ne_eqb x.process p e)

-- one more row, of p itself or of another
pub steps_push : (p : ℕ) (xs : List LogRow) (x : LogRow) → x.process ≡ p
    → steps_of p (xs ++ x ∷ []) ≡ steps_of p xs ++ x.step ∷ []
steps_push p xs x e = let a = steps_of-append p xs (x ∷ []) in grind (arith, nat_tests)

pub steps_push_other : (p : ℕ) (xs : List LogRow) (x : LogRow) → x.process ≢ p
    → steps_of p (xs ++ x ∷ []) ≡ steps_of p xs
steps_push_other p xs x e = rw (steps_of-append p xs (x ∷ []), steps_other p x [] e) (append-nil (steps_of p xs))

pub own_few : (test : Step → Bool) (q : ℕ) (xs : List LogRow) → count_steps test (steps_of q xs) ≤ count_rows test xs
own_few test q [] = omega arith
own_few test q (x ∷ xs) = let a = own_few test q xs in grind (arith, nat_tests)

-- a longer prefix has no fewer
pub longer_counts : (test : Step → Bool) (xs r ys s all : List Step) → xs ++ r ≡ all → ys ++ s ≡ all
    → length xs ≤ length ys → count_steps test xs ≤ count_steps test ys
longer_counts test xs r ys s all p q l =
    let more = longer_beginning xs r ys s all p q l in let a = count-append test xs more.0 in
    omega (arith, ap (count_steps test) more.1)

pub own-append : (test : Step → Bool) (q : ℕ) (xs ys : List LogRow)
    → count_steps test (steps_of q (xs ++ ys)) ≡ count_steps test (steps_of q xs) + count_steps test (steps_of q ys)
own-append test q xs ys = rw steps_of-append (count-append test (steps_of q xs) (steps_of q ys))

-- if no other process has such steps, the rows of q say how many there are
pub all_own : (test : Step → Bool) (q : ℕ) (xs : List LogRow)
    → ((p : ℕ) → p ≢ q → count_steps test (steps_of p xs) ≡ 0) → count_rows test xs ≡ count_steps test (steps_of q xs)
all_own test q [] only = refl
all_own test q (x ∷ xs) only =
    let a = all_own test q xs (λ p ne. let b = only p ne in grind (arith, nat_tests)) in let e = only x.process in
    grind (arith, nat_tests)

-- the same for the first rows of each process
pub first_own : (test : Step → Bool) (q : ℕ) (log now : List LogRow) (left : ℕ → List Step)
    → ((p : ℕ) → steps_of p now ++ left p ≡ steps_of p log)
    → ((p : ℕ) → p ≢ q → count_steps test (steps_of p log) ≡ 0) → count_rows test now ≡ count_steps test (steps_of q now)
first_own test q log now left own only = all_own test q now (λ p ne. let a = ap (count_steps test) (own p) in
    omega (arith, only p ne, count-append test (steps_of p now) (left p)))

-- ---- streams

pub same_stream_is : (s t : Stream) → same_stream s t ≡ true → s ≡ t
same_stream_is s t same = λ i. record { channel = both.0 i; is_control = both.1 i }
  where
    both : (s.channel ≡ t.channel) × (s.is_control ≡ t.is_control)
    both = (grind (arith, nat_tests), grind (arith, nat_tests))

-- without a row of another process
pub without : (q : ℕ) (pre kept : List LogRow) (x : LogRow) → x.process ≢ q
    → steps_of q ((pre ++ x ∷ []) ++ kept) ≡ steps_of q (pre ++ kept)
without q pre kept x ne =
    rw (steps_of-append q (pre ++ x ∷ []) kept, steps_push_other q pre x ne, steps_of-append q pre kept)

-- ---- rows in another order

swap_two : (q : ℕ) (k x : LogRow) (zs : List LogRow) → k.process ≢ x.process
    → steps_of q (k ∷ x ∷ zs) ≡ steps_of q (x ∷ k ∷ zs)
swap_two q k x zs ne = grind (arith, nat_tests)

-- a row goes after others, of other processes
pub steps_moved : (q : ℕ) (x : LogRow) (ks rest : List LogRow) → steps_of x.process ks ≡ []
    → steps_of q (ks ++ x ∷ rest) ≡ steps_of q (x ∷ (ks ++ rest))
steps_moved q x [] rest none = refl
steps_moved q x (k ∷ ks) rest none =
    let apart : k.process ≢ x.process = λ e. let a = steps_own x.process k ks e in cc in
    rw (steps_moved q x ks rest (rw (steps_other x.process k ks apart) at none)) (swap_two q k x (ks ++ rest) apart)
