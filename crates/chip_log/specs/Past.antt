-- What is known of the causal past of a claim.
use Rattle.std.specs.Prelude.{◌≡◌, ℕ, ◌+◌, ◌^◌, ◌<◌, List, [], length, take, slice_get, Some}
use Rattle.std.specs.Prelude.{All}
use Rattle.chip_log.specs.declared.row.LogRow.{LogRow}
use Rattle.chip_log.specs.declared.row.Stream.{Stream}
use Rattle.chip_log.specs.declared.row.Step.TheVariants.{Over}
use Rattle.chip_log.specs.declared.past.Sizes.{Sizes}
use Rattle.chip_log.specs.declared.past.ClaimPlace.{ClaimPlace}
use Rattle.chip_log.specs.declared.books.Books.{Books}
use Rattle.chip_log.specs.Log.{steps_of, outs, ins, AreEnabled, HasEnds}
use Rattle.chip_log.specs.Claims.{IsPast}
use Rattle.chip_log.specs.Tally.{TallyState, count}
use Rattle.chip_log.specs.Books.{said_of, said_at, rows_at, IsOf}

-- a log that is an interleaving of itself
pub record IsLog (log : List LogRow) : Type 0 where
  pub ends : HasEnds log
  pub met : AreEnabled log [] log

-- its process and channel are within these sizes
pub record FitsRow (sizes : Sizes) (x : LogRow) : Type 0 where
  pub process : x.process < sizes.processes
  pub channel : IsOf sizes.channels x.step

abbrev pub Fits : Sizes → List LogRow → Type 0
Fits sizes log = All (FitsRow sizes) log

-- such a log, of these sizes, with fewer rows than a count can have
pub record IsInOrder (sizes : Sizes) (rows : List LogRow) : Type 0 where
  pub log : IsLog rows
  pub fits : Fits sizes rows
  pub few : length rows < 2 ^ 32

-- a claim is at this place
pub record IsPlace (log : List LogRow) (claim : ClaimPlace) : Type 0 where
  pub over : slice_get log claim.at ≡ Some (record { process = claim.process; step = Over })
  pub row : length (steps_of claim.process (take claim.at log)) ≡ claim.row

-- books of these sizes
pub record AreSized (sizes : Sizes) (b : Books) : Type 0 where
  pub processes : length b.said.items ≡ sizes.processes
  pub counted : length b.rows.items ≡ sizes.processes
  pub flight : b.flight.channels ≡ sizes.channels
  pub taken : b.taken.channels ≡ sizes.channels
  pub sent : b.sent.channels ≡ sizes.channels

-- messages in transit after these rows
abbrev pub AreInFlight : List LogRow → TallyState → Type 0
AreInFlight pre flight = (s : Stream) → count flight s + ins s pre ≡ outs s pre

-- the rows that the books keep
pub record AreKept (kept : List LogRow) (b : Books) : Type 0 where
  pub taken : (s : Stream) → count b.taken s ≡ ins s kept
  pub sent : (s : Stream) → count b.sent s ≡ outs s kept
  pub rows : (q : ℕ) → rows_at b q ≡ length (steps_of q kept)
  pub said : (q : ℕ) → said_at b q ≡ said_of (steps_of q kept)

-- the books of the rows `kept` of the past, where `pre` were not read
pub record AreBooksOf (pre kept : List LogRow) (b : Books) : Type 0 where
  pub flight : AreInFlight pre b.flight
  pub keeps : AreKept kept b

-- the books of the causal past of a claim
pub record IsPastOf (log : List LogRow) (sizes : Sizes) (claim : ClaimPlace) (b : Books) : Type 0 where
  pub sized : AreSized sizes b
  pub past : List LogRow
  pub is_past : IsPast log claim.process claim.row past
  pub keeps : AreKept past b
