-- What a sink notes of the writes that were made to it.
use Rattle.std.specs.Prelude.{◌≡◌, ℕ, ◌==◌, Bool, true, false, if◌then◌else◌, List, Option, Result, Ok, Err}
use Rattle.chip_report.specs.declared.sink.Sink.{Sink}
use Rattle.chip_report.specs.declared.sink.LastWrite.{LastWrite}
use Rattle.chip_report.specs.declared.sink.LastWrite.TheVariants as last

-- how many writes were made
abbrev pub writes : {W : Type 0} → Sink W → ℕ
writes sink = sink.writes

-- how the last write went
abbrev pub last_write : {W : Type 0} → Sink W → LastWrite
last_write sink = sink.last

-- the bytes that the writer holds, if they are known
abbrev pub bytes_out : {W : Type 0} → (W → Option (List ℕ)) → Sink W → Option (List ℕ)
bytes_out contents sink = contents sink.writer.now

-- nothing was written yet
pub record IsUnwritten {W : Type 0} (sink : Sink W) : Type 0 where
  pub none : writes sink ≡ 0
  pub first : last_write sink ≡ last.NotYet

-- a further write may be made: the last one neither failed nor took no byte
abbrev pub goes_on : LastWrite → Bool
goes_on last.NotYet = true
goes_on last.Bytes = true
goes_on last.Nothing = false
goes_on last.Failure = false

-- how a write went
abbrev pub last_write_by : {E : Type 0} → Result ℕ E → LastWrite
last_write_by (Ok count) = if count == 0 then last.Nothing else last.Bytes
last_write_by (Err e) = last.Failure
