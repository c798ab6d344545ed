-- Many configurations, the numbers of one after those of another.
use Rattle.std.specs.Prelude.{ℕ, ◌*◌, ◌<◌, List, take, drop}

-- the numbers of row i, if each row has n
abbrev pub row : ℕ → List ℕ → ℕ → List ℕ
row n numbers i = take n (drop (i * n) numbers)

-- one of `count` rows has this fault, and all before it are done
abbrev pub IsFirstRowFault : ℕ → (ℕ → Type 0) → (ℕ → Type 0) → Type 0
IsFirstRowFault count IsDone HasFault = (i : ℕ) × (i < count) × ((j : ℕ) → j < i → IsDone j) × HasFault i
