-- The operation of an event, the event of an operation, and the words that an operation may have seen.
use Rattle.std.specs.Prelude.{◌≡◌, ◌≢◌, ℕ, ◌+◌, ◌-◌, ◌%◌, ◌<◌, ◌≤◌, length, sum, Option, Some, None, Result, Ok, Err}
use Rattle.std.specs.Prelude.{option_to_list, Bool, true, false, nat_le}
use Rattle.chip_graph.specs.Limits.{max_total}
use Rattle.chip_part.specs.declared.act.Act.{Act}
use Rattle.chip_part.specs.declared.act.Act.TheVariants as Do
pub use Rattle.chip_part.specs.declared.act.Observed.{Observed}
use Rattle.chip_part.specs.Setting.{Setting}
use Rattle.chip_link.specs.Words.{claims_in}
use Rattle.chip_link.specs.Link.{claims_of}
use Rattle.chip_detect.specs.Tally.{message_limit}
use Rattle.chip_part.specs.Edges.{graph_edges, head_of, root_edge}
use Rattle.chip_part.specs.Part.{Part, may_ack_on, cause, is_by_limit}
use Rattle.chip_part.specs.Rules.{Rule, Event, Take, Ack, Fire, Clear, Claim, Put, Halt, Settle, Seal, Read, Feed, End}
use Rattle.chip_part.specs.Rules.{unmet_rule}
use Rattle.chip_part.specs.Steps.{part_of}

-- the operation of a vertex's event, if it is enabled. A message with place p is in cell p % ring, and the one claimed
-- and not put has the last place. A seal and a read are no operations of a vertex; those of the root on its edges are
-- of the same kinds
abbrev pub act_of : Setting → Event → Part → Act
act_of g (Take e) s = Do.Take e (length (s.into e).got % g.ring)
act_of g (Ack e) s = Do.Ack e (may_ack_on g (head_of g e) s e)
act_of g (Fire v k) s = Do.Fire k
act_of g (Clear e) s = Do.Clear e (claims_of (s.out e).link % g.ring)
act_of g (Claim e) s = Do.Claim e (claims_of (s.out e).link) (claims_of (s.out e).link + 1)
act_of g (Put e) s = Do.Put e ((claims_of (s.out e).link - 1) % g.ring) (sum (option_to_list (s.out e).link.held))
act_of g (Halt v) s = Do.Halt (is_by_limit (cause g v s))
act_of g (Settle e) s = Do.Settle e
act_of g (Seal e) s = Do.End
act_of g (Read v) s = Do.End
act_of g (Feed e k) s = Do.Claim e (claims_of (s.out e).link) (claims_of (s.out e).link + 1)
act_of g End s = Do.Settle (root_edge g 0)

-- the event of an operation of the vertex v. `End` has none: it gets an event that no vertex makes
abbrev pub event_of : ℕ → Act → Event
event_of v (Do.Take e cell) = Take e
event_of v (Do.Settle e) = Settle e
event_of v (Do.Fire k) = Fire v k
event_of v (Do.Clear e cell) = Clear e
event_of v (Do.Claim e expected new) = Claim e
event_of v (Do.Put e cell value) = Put e
event_of v (Do.Halt by_limit) = Halt v
event_of v (Do.Ack e count) = Ack e
event_of v Do.End = Seal 0

-- the operation, or the first unmet rule
abbrev pub verdict : Option Rule → Act → Result Act Rule
verdict None act = Ok act
verdict (Some rule) act = Err rule

-- what an operation may have seen: a message keeps the chips and the number of messages within the limits, the edge
-- word is as the tail left it except for a seal, and acknowledgements never outnumber messages
abbrev pub FitsSeen : Part → Event → ℕ → Type 0
FitsSeen s (Take e) seen = seen ≢ 0 → (s.chips + seen ≤ max_total) × (length (s.into e).got < message_limit)
FitsSeen s (Claim e) seen = claims_in seen ≡ claims_of (s.out e).link
FitsSeen s (Settle e) seen = ((s.out e).settled ≤ seen) × (seen ≤ claims_of (s.out e).link)
FitsSeen s _ seen = Unit {0}

-- the vertex v may make this event, and may have seen this
abbrev pub CanDo : Setting → Part → ℕ → Event → ℕ → Type 0
CanDo g s v x seen = (part_of g x ≡ v) × (unmet_rule g x s ≡ None) × FitsSeen s x seen

-- an operation that `may` returned, with a word that it may have seen
abbrev pub IsOperationDue : Setting → Part → ℕ → Observed → Type 0
IsOperationDue g s v o = CanDo g s v (event_of v o.act) o.seen × (o.act ≡ act_of g (event_of v o.act) s)

-- an event of the root: one of an edge that isn't the graph's, a feed, the end of feeding, or a read
abbrev pub is_of_root : Setting → Event → Bool
is_of_root g (Clear e) = nat_le (graph_edges g) e
is_of_root g (Put e) = nat_le (graph_edges g) e
is_of_root g (Settle e) = nat_le (graph_edges g) e
is_of_root g (Read v) = true
is_of_root g (Feed e k) = true
is_of_root g End = true
is_of_root g _ = false

-- what an event of the root may have seen: no root edge is ever sealed, so that a feed sees the number of claims
abbrev pub FitsRoot : Setting → Part → Event → ℕ → Type 0
FitsRoot g s (Feed e k) seen = seen ≡ claims_of (s.out e).link
FitsRoot g s End seen = FitsSeen s (Settle (root_edge g 0)) seen
FitsRoot g s x seen = FitsSeen s x seen
