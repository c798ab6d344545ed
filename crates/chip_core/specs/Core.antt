-- The whole core of a running game: the part of each vertex, of the root and of the stopper. All of them follow from
-- one list, the list of the events made.
use Rattle.std.specs.Prelude.{◌≡◌, ℕ, true, ◌<◌, ◌==◌, if◌then◌else◌, List, [], ◌∷◌, Option, Some, None, is_some}
use Rattle.chip_part.specs.Setting.{Setting}
use Rattle.chip_link.specs.Words.{fired_word}
use Rattle.chip_link.specs.Link.{cell_at_tail, cell_at_head, word_of}
pub use Rattle.chip_part.specs.Edges.{tail_of, head_of, root, root_edge, stopper, all_edges, graph_edges}
pub use Rattle.chip_part.specs.Part.{Part, Out, Into, opening_part, is_by_limit, outstanding_on}
pub use Rattle.chip_part.specs.Rules.{Event, Take, Ack, Fire, Clear, Claim, Put, Halt, Settle, Seal, Read, Feed, End}
pub use Rattle.chip_part.specs.Rules.{unmet_rule}
pub use Rattle.chip_part.specs.declared.rule.Rule.{Rule}
pub use Rattle.chip_link.specs.declared.event.Step.{Step}
pub use Rattle.chip_part.specs.declared.reply.Reply.{Reply}
pub use Rattle.chip_part.specs.Steps.{part_of, does, reply_of}
use Rattle.chip_part.specs.declared.reply.Reply.TheVariants.{NotNow}
use Rattle.chip_part.specs.Steps.{saw}

-- the events made since the opening, each with the word that it saw. The latest is first, since all proofs go back from
-- the last event; `events_in` has them in order
abbrev pub Log : Type 0
Log = List Step

-- the part p after these events: only its own events change it
abbrev pub part_in : Setting → Log → ℕ → Part
part_in g [] p = opening_part g
part_in g (x ∷ log) p = if part_of g x.event == p then does g x (part_in g log p) else part_in g log p

-- an edge, as its tail has it
abbrev pub out_in : Setting → Log → ℕ → Out
out_in g log e = (part_in g log (tail_of g e)).out e

-- an edge, as its head has it
abbrev pub into_in : Setting → Log → ℕ → Into
into_in g log e = (part_in g log (head_of g e)).into e

-- the word that the first seal of an edge saw, if it was sealed
abbrev pub stop_in : Setting → Log → ℕ → Option ℕ
stop_in g log e = (part_in g log (stopper g)).stop e

-- how often v fired
abbrev pub fired_by : Setting → Log → ℕ → ℕ
fired_by g log v = (part_in g log v).fired

-- the fired word of a vertex
abbrev pub word_of_part : Part → ℕ
word_of_part s = fired_word s.fired (is_some s.halt) (is_by_limit s.halt)

-- an edge by these parts: at its tail, at its head, and what its first seal saw
abbrev pub out_by : Setting → (ℕ → Part) → ℕ → Out
out_by g parts e = (parts (tail_of g e)).out e

abbrev pub into_by : Setting → (ℕ → Part) → ℕ → Into
into_by g parts e = (parts (head_of g e)).into e

abbrev pub stop_by : Setting → (ℕ → Part) → ℕ → Option ℕ
stop_by g parts e = (parts (stopper g)).stop e

-- the word that the operation of an event finds, as these parts left it; 0 for a store, which finds none
abbrev pub seen_of : Setting → (ℕ → Part) → Event → ℕ
seen_of g parts (Take e) = cell_at_head (out_by g parts e).link (into_by g parts e).got
seen_of g parts (Clear e) = cell_at_tail g.ring (out_by g parts e).link (into_by g parts e).got
seen_of g parts (Claim e) = word_of (out_by g parts e).link (stop_by g parts e)
seen_of g parts (Settle e) = (into_by g parts e).acked
seen_of g parts (Seal e) = word_of (out_by g parts e).link (stop_by g parts e)
seen_of g parts (Read v) = word_of_part (parts v)
seen_of g parts (Ack e) = (into_by g parts e).acked
seen_of g parts (Fire v k) = word_of_part (parts v)
seen_of g parts (Halt v) = word_of_part (parts v)
seen_of g parts (Put e) = 0
seen_of g parts (Feed e k) = word_of (out_by g parts e).link (stop_by g parts e)
seen_of g parts End = (into_by g parts (root_edge g 0)).acked

-- and so by the parts after these events
abbrev pub sees : Setting → Log → Event → ℕ
sees g log x = seen_of g (part_in g log) x

-- the core makes this event after these, and it sees this: the event is enabled, and the word is as the others left it
abbrev pub FitsLog : Setting → Log → Step → Type 0
FitsLog g log x = (unmet_rule g x.event (part_in g log (part_of g x.event)) ≡ None) × (x.seen ≡ sees g log x.event)

-- each event is one that the core makes after those before it
abbrev pub IsLegalLog : Setting → Log → Type 0
IsLegalLog g [] = Unit {0}
IsLegalLog g (x ∷ log) = IsLegalLog g log × FitsLog g log x

-- the log and the reply after a request for an event: if a rule isn't met nothing is done
abbrev pub answer : Setting → Log → Event → Option Rule → Log × Reply
answer g log x (Some rule) = (log, NotNow rule)
answer g log x None = (
  saw x (sees g log x)
      ∷ log,
  reply_of g x (sees g log x) (part_in g log (part_of g x)),
)

-- one step of the core
abbrev pub step : Setting → Log → Event → Log × Reply
step g log x = answer g log x (unmet_rule g x (part_in g log (part_of g x)))

-- the log after a list of events, given in order
abbrev pub log_after : Setting → Log → List Event → Log
log_after g log [] = log
log_after g log (x ∷ xs) = log_after g (step g log x).0 xs

-- the replies to them
abbrev pub replies_to : Setting → Log → List Event → List Reply
replies_to g log [] = []
replies_to g log (x ∷ xs) = (step g log x).1 ∷ replies_to g (step g log x).0 xs

-- on each root edge every message sent is settled
abbrev pub IsSettled : Setting → Log → Type 0
IsSettled g log = (e : ℕ) → e < all_edges g → tail_of g e ≡ root g → outstanding_on (out_in g log e) ≡ 0

-- the root is closed: it noted the end of feeding, and on each root edge every message sent is settled
abbrev pub IsClosed : Setting → Log → Type 0
IsClosed g log = ((part_in g log (root g)).ended ≡ true) × IsSettled g log
