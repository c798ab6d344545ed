-- Numbers of streams.
use Rattle.std.specs.Prelude.{◌≡◌, ℕ, ◌+◌, List, length, slice_index, if◌then◌else◌}
use Rattle.chip_log.specs.declared.row.Stream.{Stream}
use Rattle.chip_log.specs.declared.tally.Tally.TheInside.{Inside}
use Rattle.chip_log.specs.Log.{same_stream}

-- what a `Tally` shows: the numbers of the basic and of the control streams, by channels
pub record TallyState : Type 0 where
  pub channels : ℕ
  pub basic : List ℕ
  pub control : List ℕ

abbrev pub state_of : Inside → TallyState
state_of a = record { channels = length a.basic.items; basic = a.basic.items; control = a.control.items }

abbrev pub HasBoth : Inside → Type 0
HasBoth a = length a.control.items ≡ length a.basic.items

-- the number of a stream
abbrev pub count : TallyState → Stream → ℕ
count t s = slice_index (if s.is_control then t.control else t.basic) s.channel

-- a stream has one more, or one fewer, and the others are unchanged
pub record IsMore (s : Stream) (old new : TallyState) : Type 0 where
  pub same : new.channels ≡ old.channels
  pub counts : (t : Stream) → count new t ≡ (if same_stream s t then 1 else 0) + count old t

pub record IsLess (s : Stream) (old new : TallyState) : Type 0 where
  pub same : new.channels ≡ old.channels
  pub counts : (t : Stream) → count old t ≡ (if same_stream s t then 1 else 0) + count new t
