-- Serves Rows.antt.
-- Rows of numbers, one after another, and what results say.
use Rattle.std.proofs.Common.{◌≡◌, ℕ, ◌*◌, ◌+◌, ◌<◌, ◌≤◌, List, ◌++◌, length, take, drop, sym, ap, ◌∙◌, arith}
use Rattle.std.proofs.Common.{length-drop, mul-le-mul_right}
use Rattle.std.proofs.lemmas.List.{take_all, take-append-le, drop-append-le}
use Rattle.std.proofs.Math.Seq.{drop-append_seam}
use Rattle.std.specs.Prelude.{Result, Ok, Err, MatchResult}
use Rattle.chip_recurrent.specs.Rows.{row}

-- a row before the last of k lies within them
pub room_for_row : (n i k : ℕ) → i < k → i * n + n ≤ k * n
room_for_row n i k before = let next : i + 1 ≤ k = omega arith in let a = mul-le-mul_right n next in omega arith

-- a row before the last of k stays the same if more numbers follow
pub row_front : (n k : ℕ) (xs ys : List ℕ) → length xs ≡ k * n → (i : ℕ) → i < k → row n (xs ++ ys) i ≡ row n xs i
row_front n k xs ys long i before =
    let room = room_for_row n i k before in
    let first : i * n ≤ length xs = omega arith in
    let rest : n ≤ length (drop (i * n) xs) = omega (arith, length-drop (i * n) xs) in
    rw (drop-append-le (i * n) xs ys first) (take-append-le n (drop (i * n) xs) ys rest)

-- the numbers after k rows are the next row
pub row_next : (n k : ℕ) (xs ys : List ℕ) → length xs ≡ k * n → length ys ≡ n → row n (xs ++ ys) k ≡ ys
row_next n k xs ys long each =
    ap (take n) (ap (λ (j : ℕ). drop j (xs ++ ys)) (sym long) ∙ drop-append_seam xs ys) ∙ take_all n ys (omega arith)

-- what follows in each case
pub widened : {T E : Type 0} (A A' : T → Type 0) (B B' : E → Type 0) → ((x : T) → A x → A' x) → ((e : E) → B e → B' e)
    → (r : Result T E) → MatchResult r A B → MatchResult r A' B'
widened A A' B B' f g (Ok x) is = f x is
widened A A' B B' f g (Err e) is = g e is
