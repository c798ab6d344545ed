-- The log that a text of rows means, and what is wrong with a text that means none.
use Rattle.std.specs.Prelude.{ℕ, ◌+◌, ◌*◌, max, Bool, true, false, ◌==◌, nat_lt, nat_le, ◌&&◌, if◌then◌else◌, List, [], ◌∷◌}
use Rattle.std.specs.Prelude.{codes, length, map, Option, None, Some, is_some, is_none, unwrap_or}
use Rattle.chip_graph.specs.Limits.{SizeLimits}
use Rattle.chip_graph.specs.Faults.{first_of_faults, fault_unless}
use Rattle.chip_log.specs.declared.past.Sizes.{Sizes}
use Rattle.chip_log.specs.declared.row.LogRow.{LogRow}
use Rattle.chip_log.specs.declared.row.Step.{Step}
use Rattle.chip_log.specs.declared.row.Step.TheVariants as step
use Rattle.chip_log.specs.declared.row.Stream.{Stream}
use Rattle.chip_log.specs.Log.{steps_of, is_active, is_in, is_out}
use Rattle.chip_log.specs.Order.{may_send}
use Rattle.chip_file.specs.declared.log.LogKind.{LogKind}
use Rattle.chip_file.specs.declared.log.LogKind.TheVariants as kind
use Rattle.chip_file.specs.declared.fault.FileFault.{FileFault}
use Rattle.chip_file.specs.declared.fault.FileFault.TheVariants as fault
use Rattle.chip_file.specs.Kinds.{kind_at}
use Rattle.chip_file.specs.Numbers.{number_at, number_in}
use Rattle.chip_file.specs.Rows.{Row, RowFault, records_of, rows_under_header, records_fault}

-- the header of a log
abbrev pub log_header : Row
log_header = codes "process" ∷ codes "kind" ∷ codes "channel" ∷ []

-- the kinds of its rows, by their names
abbrev pub log_kinds : List (List ℕ × LogKind)
log_kinds =
    (codes "send", kind.Send) ∷ (codes "receive", kind.Receive) ∷ (codes "tell", kind.Tell) ∷ (codes "hear", kind.Hear)
    ∷ (codes "passive", kind.Passive) ∷ (codes "active", kind.Active) ∷ (codes "over", kind.Over) ∷ []

-- the kind of a row
abbrev pub kind_in : Row → LogKind
kind_in row = unwrap_or (kind_at log_kinds 1 row) kind.Over

-- the basic or the control messages of a channel
abbrev pub stream : Bool → ℕ → Stream
stream is_control channel = record { channel = channel; is_control = is_control }

-- the step of this kind; only a message has a channel
abbrev pub step_of_kind : LogKind → ℕ → Step
step_of_kind kind.Send channel = step.Out (stream false channel)
step_of_kind kind.Receive channel = step.In (stream false channel)
step_of_kind kind.Tell channel = step.Out (stream true channel)
step_of_kind kind.Hear channel = step.In (stream true channel)
step_of_kind kind.Passive channel = step.Passive
step_of_kind kind.Active channel = step.Active
step_of_kind kind.Over channel = step.Over

-- what a row says
abbrev pub log_row_in : Row → LogRow
log_row_in row = record { process = number_in 0 row; step = step_of_kind (kind_in row) (number_in 2 row) }

-- ---- sizes

-- the number of channels up to that of a step
abbrev pub channels_to : Step → ℕ
channels_to (step.Out s) = s.channel + 1
channels_to (step.In s) = s.channel + 1
channels_to _ = 0

-- the numbers of processes and channels that the greatest numbers of a log need
abbrev pub processes_of : List LogRow → ℕ
processes_of [] = 0
processes_of (x ∷ xs) = max (x.process + 1) (processes_of xs)

abbrev pub channels_of : List LogRow → ℕ
channels_of [] = 0
channels_of (x ∷ xs) = max (channels_to x.step) (channels_of xs)

abbrev pub sizes_of : List LogRow → Sizes
sizes_of log = record { processes = processes_of log; channels = channels_of log }

-- the most processes and channels of a log: twice the vertices and the edges of a graph
abbrev pub most_processes : SizeLimits → ℕ
most_processes limits = 2 * limits.vertices

abbrev pub most_channels : SizeLimits → ℕ
most_channels limits = 2 * limits.edges

-- ---- faults

-- the first thing wrong with the row at an index, whatever rows come before it
abbrev pub lone_row_fault : SizeLimits → ℕ → Row → Option FileFault
lone_row_fault limits index row =
    first_of_faults (fault_unless (length row == 3) (fault.Row index))
    (first_of_faults (fault_unless (is_some (kind_at log_kinds 1 row)) (fault.Kind index))
    (first_of_faults (fault_unless (is_some (number_at 0 row) && is_some (number_at 2 row)) (fault.Number index))
    (fault_unless (nat_lt (number_in 0 row) (most_processes limits)
    && nat_le (channels_to (log_row_in row).step) (most_channels limits)) (fault.Vertex index))))

-- whether two steps are at one end of a stream: both send on it, or both get
abbrev pub same_end : Step → Step → Bool
same_end (step.Out s) other = is_out s other
same_end (step.In s) other = is_in s other
same_end _ other = false

-- the process that has the end at which a step is: the first with a row there
abbrev pub holder : Step → List LogRow → Option ℕ
holder step [] = None
holder step (x ∷ xs) = if same_end step x.step then Some x.process else holder step xs

-- whether p may be at an end that this process has, if one has it
abbrev pub may_hold : Option ℕ → ℕ → Bool
may_hold None p = true
may_hold (Some q) p = q == p

-- whether a process may make a step after these: it begins active by its first one
abbrev pub may_begin : List Step → Step → Bool
may_begin (first ∷ steps) step.Active = false
may_begin _ _ = true

-- the first thing wrong with a row at an index by the rows before it
abbrev pub placed_fault : ℕ → List LogRow → LogRow → Option FileFault
placed_fault index above x =
    first_of_faults (fault_unless (may_hold (holder x.step above) x.process) (fault.End index))
    (first_of_faults (fault_unless (may_send (is_active above above x.process) x.step) (fault.Passive index))
    (fault_unless (may_begin (steps_of x.process above) x.step) (fault.Woken index)))

-- the first thing wrong with a row after those before it
abbrev pub log_row_fault : SizeLimits → RowFault
log_row_fault limits before row =
    first_of_faults (lone_row_fault limits (length before) row)
    (placed_fault (length before) (map log_row_in before) (log_row_in row))

-- the first thing wrong with a text of a log
abbrev pub log_text_fault : SizeLimits → List ℕ → Option FileFault
log_text_fault limits text = records_fault log_header (log_row_fault limits) (records_of text)

-- the log that a text means, in the order of the file, and its sizes: none if something is wrong with it
abbrev pub log_of_text : SizeLimits → List ℕ → Option (List LogRow × Sizes)
log_of_text limits text =
    let log = map log_row_in (rows_under_header (records_of text)) in
    if is_none (log_text_fault limits text) then Some (log, sizes_of log) else None
