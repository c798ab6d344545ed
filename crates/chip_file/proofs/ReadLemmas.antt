-- Serves Answer.antt, Source.antt, GraphText.antt, ChipsText.antt, ScheduleText.antt, TraceText.antt,
-- LogText.antt.
-- How much the reads of an input take; and that no text is at fault for its source.
use Rattle.chip_file.proofs.Names.{◌≡◌, ℕ, ◌⊎◌, Bool, true, false, List, [], ◌∷◌, ◌++◌, length, Option, None, Some}
use Rattle.chip_file.proofs.Names.{Result, Ok, Err, refl, sym, subst, inl, inr, ◌+◌, ◌≤◌, take, arith, length-append}
use Rattle.chip_file.proofs.Names.{map, Consumes-trans, Consumes-kept, common_steps, ReadsAtMost, Consumes}
use Rattle.chip_file.proofs.Names.{ReadConsumes, ◌==◌, nat_le, nat_lt, ◌&&◌, is_some, sum, IfSome, Vec, IsErrAnd}
use Rattle.chip_file.proofs.Names.{SizeLimits, max_total, first_of_faults, fault_unless, Multigraph, FileFault}
use Rattle.chip_file.proofs.Names.{LastRead, Source, AnswersInput, Gives, IsOfMachine, ReadsWhole, TakesAtMost, max_chunk}
use Rattle.chip_file.proofs.Names.{ReadsSource, TellsRead, bytes_left, last_of_whole, last_read, reads, Row, records_of}
use Rattle.chip_file.proofs.Names.{has_header, rows_under_header, first_row_fault, records_fault, by_index}
use Rattle.chip_file.proofs.Names.{chips_text_fault, chips_of_rows, new_row_fault, IsGraphTextFault, kind_at, number_at}
use Rattle.chip_file.proofs.Names.{number_in, trace_text_fault, trace_row_fault, LogRow}
use Rattle.chip_file.specs.ScheduleText.{schedule_text_fault, event_fault, event_kinds, may_be_at}
use Rattle.chip_file.specs.LogText.{log_text_fault, log_row_fault, lone_row_fault, placed_fault}
use Rattle.chip_file.specs.LogText.{log_row_in, log_kinds, most_processes, most_channels, channels_to}
use Rattle.chip_file.specs.declared.fault.FileFault.TheVariants as fault
use Rattle.chip_file.specs.declared.source.LastRead.TheVariants as last
use Rattle.chip_file.specs.ScheduleText as schedule

-- a read into a buffer takes no more than the buffer has room for, above what was taken before it
pub taken_more : {E : Type 0} (most : ℕ) (a b c : Option (List ℕ)) (done buf : List ℕ) (r : Result ℕ E)
    → Consumes a b done → ReadConsumes b c r buf → ReadsAtMost r buf → length done ≤ most
    → length buf ≤ max_chunk
    → TakesAtMost (most + max_chunk) a c
taken_more most a b c done buf (Ok n) before read within few room =
    let joined = length-append done (take n buf) in
    let whole = within.1 in
    let inside = within.0 in
    (done ++ take n buf, Consumes-trans a b c done (take n buf) before read.0, omega arith)
taken_more most a b c done buf (Err e) before kept within few room =
    (done, Consumes-kept a b c done before kept, omega arith)

-- ---- faults of a text

-- is it a fault that its source alone has?
abbrev is_of_source : FileFault → Bool
is_of_source fault.Read = true
is_of_source fault.TooLong = true
is_of_source _ = false

-- a fault, if there is one, is not its source's
abbrev IsOfText : Option FileFault → Type 0
IsOfText o = (f : FileFault) → o ≡ Some f → is_of_source f ≡ false

unless_of_text : (test : Bool) (f : FileFault) → is_of_source f ≡ false → IsOfText (fault_unless test f)
unless_of_text true f other g e = cc e
unless_of_text false f other g e = let same : f ≡ g = cc e in rw same at other

first_of_text : (first later : Option FileFault) → IsOfText first → IsOfText later
    → IsOfText (first_of_faults first later)
first_of_text None later no_first no_later = no_later
first_of_text (Some f) later no_first no_later = no_first

rows_of_text : (row_fault : List Row → Row → Option FileFault) (before rows : List Row)
    → ((before : List Row) (row : Row) → IsOfText (row_fault before row))
    → IsOfText (first_row_fault row_fault before rows)
rows_of_text row_fault before [] each = λ f e. cc e
rows_of_text row_fault before (row ∷ rows) each =
    first_of_text _ _ (each before row) (rows_of_text row_fault (before ++ row ∷ []) rows each)

records_of_text : (header : Row) (row_fault : List Row → Row → Option FileFault) (records : List Row)
    → ((before : List Row) (row : Row) → IsOfText (row_fault before row))
    → IsOfText (records_fault header row_fault records)
records_of_text header row_fault records each =
    first_of_text _ _ (unless_of_text (has_header header records) fault.Header refl)
    (rows_of_text row_fault [] (rows_under_header records) each)

vertex_row_alone : (vertices : ℕ) (before : List Row) (row : Row) → IsOfText (new_row_fault vertices before row)
vertex_row_alone vertices before row f e = grind (arith, common_steps)

event_alone : (G : Multigraph) (index : ℕ) (row : Row) → IsOfText (event_fault G index row)
event_alone G index row =
    first_of_text _ _ (unless_of_text (length row == 3) (fault.Row index) refl)
    (first_of_text _ _ (unless_of_text (is_some (kind_at event_kinds 0 row)) (fault.Kind index) refl)
    (first_of_text _ _
    (unless_of_text (is_some (number_at 1 row) && is_some (number_at 2 row)) (fault.Number index) refl)
    (unless_of_text (may_be_at G (schedule.kind_in row) (number_in 1 row)) (fault.Vertex index) refl)))

trace_row_alone : (G : Multigraph) (index : ℕ) (row : Row) → IsOfText (trace_row_fault G index row)
trace_row_alone G index row f e = grind (arith, common_steps)

pub chips_of_text_alone : (vertices : ℕ) (text : List ℕ) → IsOfText (chips_text_fault vertices text)
chips_of_text_alone vertices text =
    first_of_text _ _ (records_of_text _ (new_row_fault vertices) (records_of text) (vertex_row_alone vertices))
    (unless_of_text (nat_le (sum (chips_of_rows vertices text)) max_total) fault.Total refl)

pub schedule_of_text_alone : (G : Multigraph) (text : List ℕ) → IsOfText (schedule_text_fault G text)
schedule_of_text_alone G text = records_of_text _ (by_index (event_fault G)) (records_of text)
    (λ before row. event_alone G (length before) row)

pub trace_of_text_alone : (G : Multigraph) (text : List ℕ) → IsOfText (trace_text_fault G text)
trace_of_text_alone G text = records_of_text _ (by_index (trace_row_fault G)) (records_of text)
    (λ before row. trace_row_alone G (length before) row)

lone_row_alone : (limits : SizeLimits) (index : ℕ) (row : Row) → IsOfText (lone_row_fault limits index row)
lone_row_alone limits index row =
    first_of_text _ _ (unless_of_text (length row == 3) (fault.Row index) refl)
    (first_of_text _ _ (unless_of_text (is_some (kind_at log_kinds 1 row)) (fault.Kind index) refl)
    (first_of_text _ _
    (unless_of_text (is_some (number_at 0 row) && is_some (number_at 2 row)) (fault.Number index) refl)
    (unless_of_text (nat_lt (number_in 0 row) (most_processes limits)
    && nat_le (channels_to (log_row_in row).step) (most_channels limits)) (fault.Vertex index) refl)))

placed_alone : (index : ℕ) (log : List LogRow) (x : LogRow) → IsOfText (placed_fault index log x)
placed_alone index log x f e = grind (arith, common_steps)

log_row_alone : (limits : SizeLimits) (before : List Row) (row : Row) → IsOfText (log_row_fault limits before row)
log_row_alone limits before row =
    first_of_text _ _ (lone_row_alone limits (length before) row)
    (placed_alone (length before) (map log_row_in before) (log_row_in row))

pub log_of_text_alone : (limits : SizeLimits) (text : List ℕ) → IsOfText (log_text_fault limits text)
log_of_text_alone limits text = records_of_text _ (log_row_fault limits) (records_of text) (log_row_alone limits)

pub graph_of_text_alone : (limits : SizeLimits) (text : List ℕ) (f : FileFault) → IsGraphTextFault limits text f
    → is_of_source f ≡ false
graph_of_text_alone limits text fault.Read wrong = absurd wrong
graph_of_text_alone limits text fault.TooLong wrong = absurd wrong
graph_of_text_alone limits text f wrong = refl

-- ---- the result for a text, once its bytes were read

tells_end : (T : Type 0) (f : FileFault) → is_of_source f ≡ false → TellsRead {T = T} (Err f) last.End
tells_end T fault.Read other = cc other
tells_end T fault.TooLong other = cc other
tells_end T fault.NoMemory other = inr refl
tells_end T f other = refl

tells_failed : (T : Type 0) (f : FileFault) (kind : LastRead) → IsOfMachine f ⊎ (f ≡ fault.TooLong)
    → kind ≡ last_of_whole {T = Vec ℕ} (Err f) → TellsRead {T = T} (Err f) kind
tells_failed T f kind (inl (inl e)) = rw e (λ is. is)
tells_failed T f kind (inl (inr e)) = rw e (λ is. inl is)
tells_failed T f kind (inr e) = rw e (λ is. is)

-- a fault of a text is not one of its source
other_fault : (IsFault : FileFault → Type 0) (f : FileFault) → (f ≡ fault.NoMemory) ⊎ IsFault f
    → ((g : FileFault) → IsFault g → is_of_source g ≡ false) → is_of_source f ≡ false
other_fault IsFault f (inl memory) alone = rw memory refl
other_fault IsFault f (inr bad) alone = alone f bad

module _ {R T : Type 0} (remaining : R → Option (List ℕ)) (limits : SizeLimits) (IsMeant : List ℕ → T → Type 0)
    (IsFault : List ℕ → FileFault → Type 0) (old new : Source R) where
  means_text : (input : Option (List ℕ)) (bytes : Vec ℕ) (result : Result T FileFault)
      → IfSome input (λ text. AnswersInput limits text (λ (bytes : Vec ℕ). bytes.items ≡ text) (λ _. ⊥) (Ok bytes))
      → Gives (IsMeant bytes.items) (IsFault bytes.items) result
      → IfSome input (λ text. AnswersInput limits text (IsMeant text) (IsFault text) result)
  means_text None bytes result h gives = tt
  means_text (Some text) bytes (Ok value) h gives = (h.0, rw h.1 at gives)
  means_text (Some text) bytes (Err f) h (inl memory) = inl (inr memory)
  means_text (Some text) bytes (Err f) h (inr bad) = inr (inr (h.0, rw h.1 at bad))

  -- the bytes could not be read
  pub read_failed : (f : FileFault) (result : Result T FileFault) → IsErrAnd result (λ e. e ≡ f)
      → ReadsWhole limits (bytes_left remaining old) (bytes_left remaining new) (Err f)
      → reads new ≤ limits.bytes + 1 → last_read new ≡ last_of_whole {T = Vec ℕ} (Err f)
      → ReadsSource remaining limits IsMeant IsFault old new result
  read_failed f (Ok value) is whole few told = absurd is
  read_failed f (Err e) is whole few told =
      subst (λ (g : FileFault). ReadsSource remaining limits IsMeant IsFault old new (Err g)) (sym is) (record {
        text = record { means = grind (arith, common_steps, whole.known); read = whole.read; taken = whole.taken };
        few_reads = few;
        told = tells_failed T f (last_read new) whole.faults told;
      })

  -- the bytes were read, and this is what they mean
  pub text_read : (bytes : Vec ℕ) (result : Result T FileFault)
      → ReadsWhole limits (bytes_left remaining old) (bytes_left remaining new) (Ok bytes)
      → reads new ≤ limits.bytes + 1 → last_read new ≡ last.End
      → Gives (IsMeant bytes.items) (IsFault bytes.items) result
      → ((f : FileFault) → IsFault bytes.items f → is_of_source f ≡ false)
      → ReadsSource remaining limits IsMeant IsFault old new result
  text_read bytes (Ok value) whole few told gives alone = record {
    text = record {
      means = means_text (bytes_left remaining old) bytes (Ok value) whole.known gives;
      read = tt;
      taken = whole.taken;
    };
    few_reads = few;
    told = told;
  }
  text_read bytes (Err f) whole few told gives alone =
      let other = other_fault (IsFault bytes.items) f gives alone in record {
        text = record {
          means = means_text (bytes_left remaining old) bytes (Err f) whole.known gives;
          read = λ is. let never = rw is at other in absurd (cc never);
          taken = whole.taken;
        };
        few_reads = few;
        told = subst (λ (kind : LastRead). TellsRead {T = T} (Err f) kind) (sym told) (tells_end T f other);
      }
