-- The rows of the judge that the processes of a diffusing computation log.
use Rattle.std.specs.Prelude.{ℕ, ◌-◌, Bool, false, not, ◌&&◌, if◌then◌else◌, List, [], ◌∷◌, ◌++◌, map, replicate}
use Rattle.chip_diffusing.specs.Network.{Network}
use Rattle.chip_diffusing.specs.Computation.{World, Event, Send, Get, Ack, Settle, Work, Log, Leads, IsLegalLog}
use Rattle.chip_diffusing.specs.Computation.{process_of, settled_on}
use Rattle.chip_log.specs.Claims.{basic}
use Rattle.chip_log.specs.Judged.{control}
use Rattle.chip_log.specs.declared.row.LogRow.{LogRow}
use Rattle.chip_log.specs.declared.row.Step.{Step}
use Rattle.chip_log.specs.declared.row.Step.TheVariants.{Out, In, Passive, Active, Over}

-- what an event sends or gets: a message of the edge, or one acknowledgement for each acknowledged message
abbrev pub messages_of : Network → World → Event → List Step
messages_of net w (Send e) = Out (basic e) ∷ []
messages_of net w (Get e) = In (basic e) ∷ []
messages_of net w (Ack e n) = replicate n (Out (control e))
messages_of net w (Settle e word) = replicate (word - settled_on net w e) (In (control e))
messages_of net w (Work p) = []

-- whether the process of an event is still passive, if it was: a message wakes it
abbrev pub still_passive : Event → Bool → Bool
still_passive (Get e) was = false
still_passive _ was = was

-- all that the process logs of an event: its messages, and that it has become passive
abbrev pub steps_by : Network → World → Event → World → List Step
steps_by net old x new = let p = process_of net x in messages_of net old x
    ++ (if not (still_passive x (old p).passive) && (new p).passive then Passive ∷ [] else [])

abbrev pub log_row : ℕ → Step → LogRow
log_row p step = record { process = p; step = step }

abbrev pub rows_by : ℕ → List Step → List LogRow
rows_by p steps = map (log_row p) steps

-- the rows of all events from the first world on, in order, after one that the root begins active, if it does
abbrev pub rows_until : (net : Network) (first : World) (log : Log) (now : World) → Leads net first log now → List LogRow
rows_until net first [] now way = rows_by net.root (if (first net.root).passive then [] else Active ∷ [])
rows_until net first (x ∷ log) now way =
    rows_until net first log way.0 way.1 ++ rows_by (process_of net x) (steps_by net way.0 x now)

-- with the root's claim after them. An edge is the channel of its number
abbrev pub rows_of_run : (net : Network) (log : Log) (w : World) → IsLegalLog net log w → List LogRow
rows_of_run net log w legal = rows_until net legal.first log w legal.leads ++ log_row net.root Over ∷ []
