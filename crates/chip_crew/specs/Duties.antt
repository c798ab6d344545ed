-- The duties of a worker besides the turns of its actors: before each turn, and after each round.
use Rattle.std.specs.Prelude.{◌≡◌, ℕ, zero, suc, ◌+◌, ◌%◌, ◌==◌, Bool, true, false}

-- the gate accepted a turn, and what comes before it was done; or it did not, and nothing was done
abbrev pub BeginsTurn : {D : Type 0} → (D → D → Type 0) → Type 0 → Type 0 → D → D → Bool → Type 0
BeginsTurn before passes shut old new true = passes × before old new
BeginsTurn before passes shut old new false = shut × (new ≡ old)

-- what comes before each of k turns was done, from the turn with the number `from` on
abbrev pub BeginsEach : {D : Type 0} → (ℕ → D → D → Type 0) → ℕ → ℕ → D → D → Type 0
BeginsEach before from zero old new = new ≡ old
BeginsEach {D = D} before from (suc k) old new = (was : D) × BeginsEach before from k old was × before (from + k) was new

-- what comes after a round was done, or nothing
abbrev pub EndsIf : {D : Type 0} → (D → D → Type 0) → Bool → D → D → Type 0
EndsIf after true old new = after old new
EndsIf after false old new = new ≡ old

-- k turns of a worker, `round` of them in each round: what comes before each was done, and after each round what comes
-- after it
abbrev pub ServesTurns : {D : Type 0} → (ℕ → D → D → Type 0) → (D → D → Type 0) → ℕ → ℕ → D → D → Type 0
ServesTurns before after round zero old new = new ≡ old
ServesTurns {D = D} before after round (suc k) old new = (was : D) × (begun : D) × ServesTurns before after round k old was
    × before k was begun × EndsIf after (suc k % round == 0) begun new
