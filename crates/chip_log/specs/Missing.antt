-- Logs in which rows are missing. A claim that is right without them is right with them.
use Rattle.std.specs.Prelude.{◌≡◌, ℕ, zero, suc, ◌+◌, ◌==◌, Bool, true, not, if◌then◌else◌, List, [], ◌∷◌, ◌++◌, length}
use Rattle.chip_log.specs.Log.{steps_of, is_out, is_in, sends, gets, begins_active, IsInterleaving, HasEnds}
use Rattle.chip_log.specs.Claims.{basic, IsRight}
use Rattle.chip_log.specs.Order.{AreSent}
use Rattle.chip_log.specs.declared.row.LogRow.{LogRow}
use Rattle.chip_log.specs.declared.row.Stream.{Stream}
use Rattle.chip_log.specs.declared.row.Step.{Step}
use Rattle.chip_log.specs.declared.row.Step.TheVariants.{Out, Passive, Active, Over}

-- those of these steps that stay; the first is step n of its process
abbrev pub staying : (ℕ → Bool) → ℕ → List Step → List Step
staying stays n [] = []
staying stays n (step ∷ steps) =
    if stays n then step ∷ staying stays (n + 1) steps else staying stays (n + 1) steps

-- how many of the first n steps stay
abbrev pub stay_below : (ℕ → Bool) → ℕ → ℕ
stay_below stays zero = 0
stay_below stays (suc n) = stay_below stays n + (if stays n then 1 else 0)

-- `left` is the log without the steps that do not stay: receives, hears, passives, claims, and tells whose hears are
-- missing too. Message n of a stream is told if the step that sends it stays, as that of each basic one does; a step that
-- gets it stays only then. In `left` each basic message is sent while active, as it is in every log with an interleaving
pub record IsWithout (stays : ℕ → ℕ → Bool) (told : Stream → ℕ → Bool) (log left : List LogRow) : Type 0 where
  pub rows : (p : ℕ) → steps_of p left ≡ staying (stays p) 0 (steps_of p log)
  pub begins : (p : ℕ) → begins_active (steps_of p log) ≡ true → begins_active (steps_of p left) ≡ true
  pub tells : (p : ℕ) (s : Stream) (before : List Step) (step : Step) (after : List Step)
      → before ++ step ∷ after ≡ steps_of p log → is_out s step ≡ true → stays p (length before) ≡ told s (sends s before)
  pub hears : (p : ℕ) (s : Stream) (before : List Step) (step : Step) (after : List Step)
      → before ++ step ∷ after ≡ steps_of p log → is_in s step ≡ true → stays p (length before) ≡ true
      → told s (gets s before) ≡ true
  pub basic : (c n : ℕ) → told (basic c) n ≡ true
  pub sent : (p : ℕ) → AreSent (begins_active (steps_of p left)) (steps_of p left)

-- a claim that stays and is right without the missing rows is right with them
abbrev pub RightWithoutRows : Type 0
RightWithoutRows = (stays : ℕ → ℕ → Bool) (told : Stream → ℕ → Bool) (log left : List LogRow) (p i : ℕ) → HasEnds log
    → IsWithout stays told log left → stays p i ≡ true → IsRight left p (stay_below (stays p) i) → IsRight log p i

-- in a log with an interleaving each basic message is sent while active
abbrev pub SentWhileActive : Type 0
SentWhileActive = (log xs : List LogRow) → IsInterleaving log xs
    → (p : ℕ) → AreSent (begins_active (steps_of p log)) (steps_of p log)

-- a tell of process 0 is missing, its second step: the claim is its step 3, and its step 2 without the tell
pub record WorkedRows : Type 0 where
  pub rows : staying (λ n. not (n == 1)) 0 (Active ∷ Out (record { channel = 0; is_control = true }) ∷ Passive ∷ Over ∷ [])
      ≡ Active ∷ Passive ∷ Over ∷ []
  pub place : stay_below (λ n. not (n == 1)) 3 ≡ 2
