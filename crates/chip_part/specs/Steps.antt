-- The effect of an event on the part that makes it, field by field, and the reply. `seen` is the word that the event's
-- operation found, 0 for a store; it is all that an event learns of other parts.
use Rattle.std.specs.Prelude.{ℕ, Bool, true, ◌+◌, ◌-◌, ◌*◌, ◌&&◌, ◌==◌, if◌then◌else◌, List, [], ◌∷◌, sum, length}
use Rattle.std.specs.Prelude.{Option, Some, None, option_to_list}
use Rattle.chip_link.specs.declared.message.Message.{Message}
pub use Rattle.chip_link.specs.declared.event.Step.{Step}
pub use Rattle.chip_part.specs.declared.reply.Reply.{Reply}
use Rattle.chip_part.specs.declared.reply.Reply.TheVariants.{Done, Got, Sent, Empty, Full, Sealed, NotNow}
use Rattle.chip_link.specs.Words.{claims_in, fired_in}
use Rattle.chip_link.specs.Link.{Tail, claims_of, after_clear, after_claim, after_put, after_take, after_seal}
use Rattle.chip_detect.specs.Acknowledging.{is_parent, or_else}
use Rattle.chip_graph.specs.Multigraph.{degree}
use Rattle.chip_part.specs.Setting.{Setting}
use Rattle.chip_part.specs.Edges.{tail_of, head_of, mult_of, root, root_edge, stopper}
use Rattle.chip_part.specs.Part.{Part, Out, Into, Cause, owed_on, may_ack_on, cause, refusals}
use Rattle.chip_part.specs.Rules.{Rule, Event, Take, Ack, Fire, Clear, Claim, Put, Halt, Settle, Seal, Read, Feed, End}
use Rattle.chip_part.specs.Rules.{unmet_rule}

-- an event, whose operation saw this word
abbrev pub saw : Event → ℕ → Step
saw event seen = record { event = event; seen = seen }

-- the part that makes an event
abbrev pub part_of : Setting → Event → ℕ
part_of g (Take e) = head_of g e
part_of g (Ack e) = head_of g e
part_of g (Fire v k) = v
part_of g (Clear e) = tail_of g e
part_of g (Claim e) = tail_of g e
part_of g (Put e) = tail_of g e
part_of g (Halt v) = v
part_of g (Settle e) = tail_of g e
part_of g (Seal e) = stopper g
part_of g (Read v) = root g
part_of g (Feed e k) = tail_of g e
part_of g End = root g

-- a take adds chips, and a firing removes them
abbrev pub chips_after : Setting → Event → ℕ → ℕ → ℕ
chips_after g (Take e) seen chips = chips + seen
chips_after g (Fire v k) seen chips = chips - k * degree g.game.graph v
chips_after g _ seen chips = chips

-- a batch of k counts as k firings
abbrev pub fired_after : Event → ℕ → ℕ
fired_after (Fire v k) fired = fired + k
fired_after _ fired = fired

-- a halt has a cause
abbrev pub halt_after : Setting → Event → Part → Option Cause
halt_after g (Halt v) s = cause g v s
halt_after g _ s = s.halt

-- the first message engages a neutral vertex; it is neutral again once all that it owes on its parent edge is
-- acknowledged
abbrev pub parent_after : Setting → Event → ℕ → Part → Option ℕ
parent_after g (Take e) seen s = if seen == 0 then s.parent else or_else s.parent e
parent_after g (Ack e) seen s = if is_parent e s.parent && may_ack_on g (head_of g e) s e == owed_on (s.into e) then None
    else s.parent
parent_after g _ seen s = s.parent

-- what was sent on the edge i
abbrev pub link_after : Event → ℕ → ℕ → Out → Tail
link_after (Clear e) seen i o = if e == i then after_clear seen o.link else o.link
link_after (Claim e) seen i o = if e == i then after_claim o.pending seen o.link else o.link
link_after (Put e) seen i o = if e == i then after_put o.link else o.link
link_after (Feed e k) seen i o = if e == i then after_claim k seen o.link else o.link
link_after _ seen i o = o.link

-- a firing leaves something to send on each edge out of its vertex; an accepted claim sends all of it
abbrev pub pending_after : Setting → Event → ℕ → ℕ → Out → ℕ
pending_after g (Fire v k) seen i o = if tail_of g i == v then k * mult_of g i else o.pending
pending_after g (Claim e) seen i o = if e == i then (if seen == claims_of o.link then 0 else o.pending) else o.pending
pending_after g _ seen i o = o.pending

-- a settle counts up to the word of acknowledgements; the end of feeding settles the first root edge
abbrev pub settled_after : Setting → Event → ℕ → ℕ → Out → ℕ
settled_after g (Settle e) seen i o = if e == i then o.settled + (seen - o.settled) else o.settled
settled_after g End seen i o = if root_edge g 0 == i then o.settled + (seen - o.settled) else o.settled
settled_after g _ seen i o = o.settled

-- what was taken on the edge i
abbrev pub got_after : Event → ℕ → ℕ → Into → List ℕ
got_after (Take e) seen i x = if e == i then after_take seen x.got else x.got
got_after _ seen i x = x.got

-- an acknowledgement is for all messages that may be acknowledged
abbrev pub acked_after : Setting → Event → Part → ℕ → Into → ℕ
acked_after g (Ack e) s i x = if e == i then x.acked + may_ack_on g (head_of g e) s e else x.acked
acked_after g _ s i x = x.acked

-- the word that the first seal of the edge i saw
abbrev pub stop_after : Event → ℕ → ℕ → Option ℕ → Option ℕ
stop_after (Seal e) seen i stop = if e == i then after_seal seen stop else stop
stop_after _ seen i stop = stop

-- the end is noted for good
abbrev pub ended_after : Event → Bool → Bool
ended_after End ended = true
ended_after _ ended = ended

-- the part that makes an event, after it
abbrev pub does : Setting → Step → Part → Part
does g x s = record {
  chips = chips_after g x.event x.seen s.chips;
  fired = fired_after x.event s.fired;
  halt = halt_after g x.event s;
  parent = parent_after g x.event x.seen s;
  out = λ i. record {
    link = link_after x.event x.seen i (s.out i);
    pending = pending_after g x.event x.seen i (s.out i);
    settled = settled_after g x.event x.seen i (s.out i);
  };
  into = λ i. record { got = got_after x.event x.seen i (s.into i); acked = acked_after g x.event s i (s.into i) };
  stop = λ i. stop_after x.event x.seen i (s.stop i);
  ended = ended_after x.event s.ended;
}

-- a message, by edge, place and count
abbrev pub message_of : ℕ → ℕ → ℕ → Message
message_of edge place count = record { edge = edge; place = place; count = count }

-- the reply to an enabled event, by the part before it and what was seen
abbrev pub reply_of : Setting → Event → ℕ → Part → Reply
reply_of g (Take e) seen s = if seen == 0 then Empty else Got (message_of e (length (s.into e).got) seen)
reply_of g (Ack e) seen s = Done (may_ack_on g (head_of g e) s e)
reply_of g (Fire v k) seen s = Done (s.fired + k)
reply_of g (Clear e) seen s = if seen == 0 then Done (claims_of (s.out e).link) else Full
reply_of g (Claim e) seen s = if seen == claims_of (s.out e).link
    then Sent (message_of e (claims_of (s.out e).link) (s.out e).pending) else Sealed
reply_of g (Put e) seen s = Done (sum (option_to_list (s.out e).link.held))
reply_of g (Halt v) seen s = Done (if refusals g v s == 0 then 1 else 0)
reply_of g (Settle e) seen s = Done (seen - (s.out e).settled)
reply_of g (Seal e) seen s = Done (claims_in seen)
reply_of g (Read v) seen s = Done (fired_in seen)
reply_of g (Feed e k) seen s = if seen == claims_of (s.out e).link
    then Sent (message_of e (claims_of (s.out e).link) k) else Sealed
reply_of g End seen s = Done (seen - (s.out (root_edge g 0)).settled)

-- a part and the reply after a request for an event: if a rule isn't met nothing is done
abbrev pub part_and_reply : Setting → Step → Part → Option Rule → Part × Reply
part_and_reply g x s (Some rule) = (s, NotNow rule)
part_and_reply g x s None = (does g x s, reply_of g x.event x.seen s)

-- the replies to a list of events of one part, each with what its operation sees
abbrev pub replies : Setting → Part → List Step → List Reply
replies g s [] = []
replies g s (x ∷ xs) =
    let after : Part × Reply = part_and_reply g x s (unmet_rule g x.event s) in
    after.1 ∷ replies g after.0 xs

-- the part after them
abbrev pub part_after : Setting → Part → List Step → Part
part_after g s [] = s
part_after g s (x ∷ xs) =
    let after : Part × Reply = part_and_reply g x s (unmet_rule g x.event s) in
    part_after g after.0 xs
