-- What is known of the causal past of a claim.
use Rattle.std.specs.Prelude.{◌≡◌, ℕ, ◌+◌, ◌^◌, ◌<◌, ◌==◌, nat_lt, ◌||◌, Bool, false, if◌then◌else◌}
use Rattle.std.specs.Prelude.{List, [], ◌∷◌, length, slice_index, slice_index_or, slice_set}
use Rattle.chip_log.specs.declared.row.LogRow.{LogRow}
use Rattle.chip_log.specs.declared.row.Stream.{Stream}
use Rattle.chip_log.specs.declared.row.Step.{Step}
use Rattle.chip_log.specs.declared.row.Step.TheVariants.{Out, In, Passive}
use Rattle.chip_log.specs.declared.books.Said.{Said}
use Rattle.chip_log.specs.declared.books.Said.TheVariants as said
use Rattle.chip_log.specs.declared.books.Books.{Books}
use Rattle.chip_log.specs.Log.{is_out, is_in}
use Rattle.chip_log.specs.Tally.{TallyState, count}

-- ---- what rows say of a process

-- what a step says
abbrev pub said_by : Step → Said
said_by (In s) = if s.is_control then said.Unsaid else said.Active
said_by Passive = said.Passive
said_by _ = said.Unsaid

-- with one earlier step
abbrev pub said_before : Step → Said → Said
said_before step said.Passive = said.Passive
said_before step said.Active = said.Active
said_before step said.Unsaid = said_by step

abbrev pub said_of : List Step → Said
said_of [] = said.Unsaid
said_of (step ∷ steps) = said_before step (said_of steps)

-- ---- reading one more row

abbrev pub one_if : Bool → ℕ
one_if b = if b then 1 else 0

-- the step is undone
pub record Passes (step : Step) (old new : TallyState) : Type 0 where
  pub same : new.channels ≡ old.channels
  pub counts : (t : Stream) → one_if (is_out t step) + count new t ≡ one_if (is_in t step) + count old t

-- whether a message of this step is needed
abbrev pub is_message_needed : TallyState → TallyState → Step → Bool
is_message_needed flight taken (Out s) = nat_lt (count flight s) (count taken s)
is_message_needed flight taken _ = false

-- how many rows of a process are in the past, and what they say, by the books
abbrev pub rows_at : Books → ℕ → ℕ
rows_at b p = slice_index b.rows.items p

abbrev pub said_at : Books → ℕ → Said
said_at b p = slice_index_or b.said.items p said.Unsaid

-- whether a row is in the past: of the claimer, of a process with a later row in it, or with a message that is needed
abbrev pub is_needed : LogRow → TallyState → Books → Bool
is_needed x flight b = x.process == b.claimer || (nat_lt 0 (rows_at b x.process) || is_message_needed flight b.taken x.step)

-- a row is noted if it is in the past
pub record KeepsRow (needed : Bool) (x : LogRow) (old new : Books) : Type 0 where
  pub claimer : new.claimer ≡ old.claimer
  pub processes : length new.said.items ≡ length old.said.items
  pub counted : length new.rows.items ≡ length old.rows.items
  pub taken_channels : new.taken.channels ≡ old.taken.channels
  pub sent_channels : new.sent.channels ≡ old.sent.channels
  pub taken : (t : Stream) → count new.taken t ≡ (if needed then one_if (is_in t x.step) else 0) + count old.taken t
  pub sent : (t : Stream) → count new.sent t ≡ (if needed then one_if (is_out t x.step) else 0) + count old.sent t
  pub rows : new.rows.items
      ≡ (if needed then slice_set old.rows.items x.process (rows_at old x.process + 1) else old.rows.items)
  pub said : new.said.items
      ≡ (if needed then slice_set old.said.items x.process (said_before x.step (said_at old x.process)) else old.said.items)

-- the channel of a step, if it has one, is below `channels`
abbrev pub IsOf : ℕ → Step → Type 0
IsOf channels (Out s) = s.channel < channels
IsOf channels (In s) = s.channel < channels
IsOf channels _ = Unit {0}

-- there is room to note the step
abbrev pub HasFlightRoom : Step → TallyState → Type 0
HasFlightRoom (Out s) flight = 0 < count flight s
HasFlightRoom (In s) flight = count flight s + 1 < 2 ^ 32
HasFlightRoom _ flight = Unit {0}

abbrev pub HasMakeRoom : Step → TallyState → Type 0
HasMakeRoom (Out s) flight = count flight s + 1 < 2 ^ 32
HasMakeRoom (In s) flight = 0 < count flight s
HasMakeRoom _ flight = Unit {0}

abbrev pub HasCountRoom : Step → Books → Type 0
HasCountRoom (Out s) b = count b.sent s + 1 < 2 ^ 32
HasCountRoom (In s) b = count b.taken s + 1 < 2 ^ 32
HasCountRoom _ b = Unit {0}

pub record HasKeepRoom (x : LogRow) (b : Books) : Type 0 where
  pub process : x.process < length b.said.items
  pub counted : x.process < length b.rows.items
  pub taken : IsOf b.taken.channels x.step
  pub sent : IsOf b.sent.channels x.step
  pub counts : HasCountRoom x.step b
  pub rows : rows_at b x.process + 1 < 2 ^ 32

pub record HasRoomForRow (x : LogRow) (b : Books) : Type 0 where
  pub flight : IsOf b.flight.channels x.step
  pub in_flight : HasFlightRoom x.step b.flight
  pub keep : HasKeepRoom x b
