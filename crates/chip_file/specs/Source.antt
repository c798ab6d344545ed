-- What a source notes of the reads that were made of it.
use Rattle.std.specs.Prelude.{◌≡◌, ◌⊎◌, ℕ, ◌+◌, ◌≤◌, ◌==◌, Bool, true, false, if◌then◌else◌, List, Option}
use Rattle.std.specs.Prelude.{Result, Ok, Err}
use Rattle.chip_file.specs.declared.fault.FileFault.{FileFault}
use Rattle.chip_file.specs.declared.fault.FileFault.TheVariants as fault
use Rattle.chip_file.specs.declared.source.Source.{Source}
use Rattle.chip_file.specs.declared.source.LastRead.{LastRead}
use Rattle.chip_file.specs.declared.source.LastRead.TheVariants as last
use Rattle.chip_file.specs.Answer.{ReadsText}
use Rattle.chip_graph.specs.Limits.{SizeLimits, max_text}

-- the most reads that are made of any input: one for each byte, and one that finds the end
abbrev pub max_reads : ℕ
max_reads = max_text + 1

-- the number of reads that were made
abbrev pub reads : {R : Type 0} → Source R → ℕ
reads source = source.reads

-- how the last read went
abbrev pub last_read : {R : Type 0} → Source R → LastRead
last_read source = source.last

-- the bytes that the reader has left, if they are known
abbrev pub bytes_left : {R : Type 0} → (R → Option (List ℕ)) → Source R → Option (List ℕ)
bytes_left remaining source = remaining source.reader.now

-- nothing was read yet
pub record IsFresh {R : Type 0} (source : Source R) : Type 0 where
  pub none : reads source ≡ 0
  pub first : last_read source ≡ last.NotYet

-- a further read may be made: the last one neither failed nor found the end
abbrev pub may_read_on : LastRead → Bool
may_read_on last.NotYet = true
may_read_on last.Bytes = true
may_read_on last.End = false
may_read_on last.Failure = false

-- how a read went that has room for a byte
abbrev pub last_by : {E : Type 0} → Result ℕ E → LastRead
last_by (Ok count) = if count == 0 then last.End else last.Bytes
last_by (Err e) = last.Failure

-- how the last read of an input went, by the result of reading the whole of it: the end was found; a read failed; or
-- bytes came, and they were too many or found no room
abbrev pub last_of_whole : {T : Type 0} → Result T FileFault → LastRead
last_of_whole (Ok value) = last.End
last_of_whole (Err fault.Read) = last.Failure
last_of_whole (Err f) = last.Bytes

-- how the last read went, by the result of reading a text of an input; if memory ran out the end may have been found
abbrev pub TellsRead : {T : Type 0} → Result T FileFault → LastRead → Type 0
TellsRead (Ok value) read = read ≡ last.End
TellsRead (Err fault.Read) read = read ≡ last.Failure
TellsRead (Err fault.TooLong) read = read ≡ last.Bytes
TellsRead (Err fault.NoMemory) read = (read ≡ last.Bytes) ⊎ (read ≡ last.End)
TellsRead (Err f) read = read ≡ last.End

-- the results of reading a text from a source, the bound on the reads, and how the last one went
pub record ReadsSource {R T : Type 0} (remaining : R → Option (List ℕ)) (limits : SizeLimits)
    (IsMeant : List ℕ → T → Type 0) (IsFault : List ℕ → FileFault → Type 0) (old new : Source R)
    (result : Result T FileFault) : Type 0 where
  pub text : ReadsText limits IsMeant IsFault (bytes_left remaining old) (bytes_left remaining new) result
  pub few_reads : reads new ≤ limits.bytes + 1
  pub told : TellsRead result (last_read new)
