-- What a judge computes.
use Rattle.std.specs.Prelude.{◌≡◌, ℕ, ◌<◌, ◌≤◌, Bool, true, false, List, [], ◌∷◌, length, map, slice_index_or, All, AllPairs}
use Rattle.std.specs.Prelude.{Option, Some, None, is_some}
use Rattle.chip_log.specs.declared.row.LogRow.{LogRow}
use Rattle.chip_log.specs.declared.row.Step.{Step}
use Rattle.chip_log.specs.declared.row.Step.TheVariants.{Active}
use Rattle.chip_log.specs.declared.books.Said.{Said}
use Rattle.chip_log.specs.declared.books.Said.TheVariants as said
use Rattle.chip_log.specs.declared.books.Books.{Books}
use Rattle.chip_log.specs.declared.past.Sizes.{Sizes}
use Rattle.chip_log.specs.declared.past.ClaimPlace.{ClaimPlace}
use Rattle.chip_log.specs.declared.judged.PastRows.{PastRows}
use Rattle.chip_log.specs.declared.judged.ClaimVerdict.{ClaimVerdict}
use Rattle.chip_log.specs.declared.verdict.Verdict.{Verdict}
use Rattle.chip_log.specs.declared.verdict.Verdict.TheVariants as verdict
use Rattle.chip_log.specs.Log.{steps_of}
use Rattle.chip_log.specs.Claims.{IsRight}
use Rattle.chip_log.specs.declared.row.Stream.{Stream}
use Rattle.chip_log.specs.Tally.{count}
use Rattle.chip_log.specs.Books.{said_at, rows_at}
use Rattle.chip_log.specs.Past.{IsPlace}
use Rattle.chip_log.specs.Judged.{RowPlace, AreClaims, IsJudged, rows_for, claim_place}

-- the control messages of a channel, or the basic ones
abbrev pub stream_of : Bool → ℕ → Stream
stream_of is_control c = record { channel = c; is_control = is_control }

-- no message of the first n channels is in transit, by the books
abbrev pub NoWay : Bool → ℕ → Books → Type 0
NoWay k n b = (c : ℕ) → c < n → count b.sent (stream_of k c) ≤ count b.taken (stream_of k c)

-- the least channel below n with a message in transit
abbrev pub IsFirstWay : Bool → ℕ → Books → Option ℕ → Type 0
IsFirstWay k n b None = NoWay k n b
IsFirstWay k n b (Some c) = (c < n) × (count b.taken (stream_of k c) < count b.sent (stream_of k c)) × NoWay k c b

-- how a process begins, if it has one more row
abbrev pub first_step : Option Bool → Step → Option Bool
first_step (Some begins) step = Some begins
first_step None Active = Some true
first_step None _ = Some false

abbrev pub begins_with : Option Bool → List Step → Option Bool
begins_with begins [] = begins
begins_with begins (step ∷ steps) = begins_with (first_step begins step) steps

-- whether each process begins active, if it has a row
pub record AreBeginners (sizes : Sizes) (log : List LogRow) (beginners : List (Option Bool)) : Type 0 where
  pub each : length beginners ≡ sizes.processes
  pub begins : (q : ℕ) → slice_index_or beginners q None ≡ begins_with None (steps_of q log)

-- whether a process is active whose rows in the past say this, and which begins so
abbrev pub busy_at : Said → Option Bool → Bool
busy_at said.Active begins = true
busy_at said.Passive begins = false
busy_at said.Unsaid (Some true) = true
busy_at _ _ = false

abbrev pub is_busy : List (Option Bool) → Books → ℕ → Bool
is_busy beginners b q = busy_at (said_at b q) (slice_index_or beginners q None)

-- the least process below n that is active
abbrev pub IsFirstBusy : ℕ → List (Option Bool) → Books → Option ℕ → Type 0
IsFirstBusy n beginners b None = (q : ℕ) → q < n → is_busy beginners b q ≡ false
IsFirstBusy n beginners b (Some q) =
    (q < n) × (is_busy beginners b q ≡ true) × ((r : ℕ) → r < q → is_busy beginners b r ≡ false)

-- the message in transit, or else the active process, after the rows of these books, or `Right` if there is none
abbrev pub IsLeftOver : Sizes → List (Option Bool) → Books → Verdict → Type 0
IsLeftOver sizes beginners b verdict.Right =
    NoWay false sizes.channels b × IsFirstBusy sizes.processes beginners b None
IsLeftOver sizes beginners b (verdict.OnItsWay c k) =
    IsFirstWay false sizes.channels b (Some c) × (k ≡ count b.taken (stream_of false c))
IsLeftOver sizes beginners b (verdict.Active q) =
    NoWay false sizes.channels b × IsFirstBusy sizes.processes beginners b (Some q)

-- how many rows each process below n has in the past
pub record AreCounts (n : ℕ) (b : Books) (past : List PastRows) : Type 0 where
  pub each : (q : ℕ) → q < n → rows_for q past ≡ rows_at b q
  pub none : (q : ℕ) → n ≤ q → rows_for q past ≡ 0
  pub below : All (λ x. x.process < n) past
  pub some : All (λ x. 0 < x.rows) past
  pub sorted : AllPairs (λ x y. x.process < y.process) past

-- ---- claims

abbrev pub place_at : ClaimPlace → RowPlace
place_at claim = record { process = claim.process; row = claim.row }

-- the places of all claims of a log
pub record ArePlaces (log : List LogRow) (claims : List ClaimPlace) : Type 0 where
  pub each : All (IsPlace log) claims
  pub all : AreClaims log (map place_at claims)

-- a claim is judged
pub record Judges (with_past : Bool) (log : List LogRow) (claim : ClaimPlace) (c : ClaimVerdict) : Type 0 where
  pub place : claim_place c ≡ place_at claim
  pub judged : IsJudged with_past log c

-- an earlier claim is right
pub record IsKnown (log : List LogRow) (claim earlier : ClaimPlace) : Type 0 where
  pub place : IsPlace log earlier
  pub right : IsRight log earlier.process earlier.row
  pub before : earlier.process ≡ claim.process → earlier.row ≤ claim.row

-- ---- rows

-- whether a process has a row, by how the processes with rows begin
abbrev pub has_row_at : List (Option Bool) → ℕ → Bool
has_row_at beginners p = is_some (slice_index_or beginners p None)
