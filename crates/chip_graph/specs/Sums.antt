-- Sums over the numbers below a bound, and lists of those that pass a test.
use Rattle.std.specs.Prelude.{ℕ, zero, suc, ◌+◌, Bool, if◌then◌else◌, List, [], ◌∷◌, ◌++◌}

-- f 0 + .. + f (n - 1)
abbrev pub sum_below : ℕ → (ℕ → ℕ) → ℕ
sum_below zero f = 0
sum_below (suc n) f = sum_below n f + f n

-- the numbers below n that pass the test, ascending
abbrev pub filter_below : (ℕ → Bool) → ℕ → List ℕ
filter_below test zero = []
filter_below test (suc n) = filter_below test n ++ (if test n then n ∷ [] else [])
