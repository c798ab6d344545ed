-- Serves the ranges that the search keeps, in its own clauses.
-- Lists that stay below others.
use Rattle.std.proofs.Common.{◌≡◌, ℕ, zero, suc, ◌+◌, ◌≤◌, List, [], ◌∷◌, ◌++◌, length, slice_index, refl, arith}

-- a number after others, each within a bound of its own
pub within_more : (xs : List ℕ) (x : ℕ) (bound : ℕ → ℕ) → ((v : ℕ) → slice_index xs v ≤ bound v) → x ≤ bound (length xs)
    → (v : ℕ) → slice_index (xs ++ x ∷ []) v ≤ bound v
within_more [] x bound p q zero = q
within_more [] x bound p q (suc v) = omega arith
within_more (y ∷ xs) x bound p q zero = p 0
within_more (y ∷ xs) x bound p q (suc v) = within_more xs x (λ w. bound (suc w)) (λ w. p (suc w)) q v

-- a list with one number more
pub length_more : (xs : List ℕ) (x : ℕ) → length (xs ++ x ∷ []) ≡ length xs + 1
length_more [] x = refl
length_more (y ∷ xs) x = let a = length_more xs x in omega arith
