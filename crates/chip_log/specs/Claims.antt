-- Claims that the computation is over, and whether they are right.
use Rattle.std.specs.Prelude.{◌≡◌, ℕ, ◌<◌, ◌≤◌, true, false, List, ◌∷◌, ◌++◌, length}
use Rattle.chip_log.specs.Log.{steps_of, outs, ins, is_active, IsInterleaving}
use Rattle.chip_log.specs.declared.row.LogRow.{LogRow}
use Rattle.chip_log.specs.declared.row.Stream.{Stream}
use Rattle.chip_log.specs.declared.row.Step.TheVariants.{Over}
use Rattle.chip_log.specs.declared.verdict.Verdict.{Verdict}
use Rattle.chip_log.specs.declared.verdict.Verdict.TheVariants as verdict

-- the basic messages of a channel, and the control messages
abbrev pub basic : ℕ → Stream
basic c = record { channel = c; is_control = false }

-- no basic message is in transit after these rows
abbrev pub IsQuiet : List LogRow → Type 0
IsQuiet before = (c : ℕ) → outs (basic c) before ≡ ins (basic c) before

-- no basic message is in transit, and no process is active
pub record IsQuiescentAfter (log before : List LogRow) : Type 0 where
  pub quiet : IsQuiet before
  pub passive : (p : ℕ) → is_active log before p ≡ false

-- these rows come before step i of p, a claim, in some interleaving
pub record IsBefore (log : List LogRow) (p i : ℕ) (before : List LogRow) : Type 0 where
  pub after : List LogRow
  pub whole : IsInterleaving log (before ++ record { process = p; step = Over } ∷ after)
  pub place : length (steps_of p before) ≡ i

-- and no process has fewer before it in any other
pub record IsPast (log : List LogRow) (p i : ℕ) (before : List LogRow) : Type 0 where
  pub here : IsBefore log p i before
  pub least : (other : List LogRow) → IsBefore log p i other
      → (q : ℕ) → length (steps_of q before) ≤ length (steps_of q other)

-- the least message of the least channel with one in transit
pub record IsInTransit (before : List LogRow) (c k : ℕ) : Type 0 where
  pub next : ins (basic c) before ≡ k
  pub sent : k < outs (basic c) before
  pub least : (d : ℕ) → d < c → outs (basic d) before ≡ ins (basic d) before

-- no message is in transit, and this is the least process that is active
pub record IsBusy (log before : List LogRow) (q : ℕ) : Type 0 where
  pub quiet : IsQuiet before
  pub active : is_active log before q ≡ true
  pub least : (r : ℕ) → r < q → is_active log before r ≡ false

-- in each interleaving the log is quiescent when the claim that is step i of p is made, and at each moment after it
pub record IsRight (log : List LogRow) (p i : ℕ) : Type 0 where
  pub at : (before : List LogRow) → IsBefore log p i before → IsQuiescentAfter log before
  pub later : (before between after : List LogRow)
      → IsInterleaving log ((before ++ record { process = p; step = Over } ∷ between) ++ after)
      → length (steps_of p before) ≡ i → IsQuiescentAfter log (before ++ record { process = p; step = Over } ∷ between)

-- a verdict on a claim: it is right; or in an interleaving with its causal past this is left when it is made
abbrev pub IsVerdict : List LogRow → ℕ → ℕ → Verdict → Type 0
IsVerdict log p i verdict.Right = IsRight log p i
IsVerdict log p i (verdict.OnItsWay c k) = (before : List LogRow) × IsPast log p i before × IsInTransit before c k
IsVerdict log p i (verdict.Active q) = (before : List LogRow) × IsPast log p i before × IsBusy log before q
