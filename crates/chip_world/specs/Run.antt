-- A run of a list of events, in progress.
use Rattle.std.specs.Prelude.{◌≡◌, ℕ, ◌+◌, ◌*◌, ◌<◌, ◌≤◌, ◌==◌, if◌then◌else◌, Bool, false, List, [], ◌∷◌, ◌++◌, length}
use Rattle.std.specs.Prelude.{map, slice_index, slice_index_or, Option, Some, None}
use Rattle.std.specs.Vec.{vec_len, vec_capacity}
use Rattle.chip_part.specs.Setting.{Setting}
use Rattle.chip_part.specs.Rules.{Take, Claim, Feed}
use Rattle.chip_part.specs.declared.reply.Reply.TheVariants.{Got, Sent}
use Rattle.chip_part.specs.Edges.{mult_of}
use Rattle.chip_core.specs.Core.{Log, Event, Reply, tail_of, graph_edges, all_edges, fired_by, log_after, replies_to}
use Rattle.chip_core.specs.Messages.{Message, sent_in, delivered_in, to_deliver, delivered_on, chips_in}
use Rattle.chip_core.specs.Positions.{held}
use Rattle.chip_core.specs.Headline.{Headline}
use Rattle.chip_world.specs.declared.world.running.Record.{Record}
use Rattle.chip_world.specs.Lanes.{Lane, lane_at, with_message}
use Rattle.chip_world.specs.declared.world.running.Notes.{Notes}
use Rattle.chip_world.specs.World.{WorldState, StandsForLog}

-- the edge on which an event claims a place, by a vertex or as a feed
abbrev pub claimed_edge : Event → Option ℕ
claimed_edge (Claim e) = Some e
claimed_edge (Feed e k) = Some e
claimed_edge _ = None

-- the edge of a take
abbrev pub taken_edge : Event → Option ℕ
taken_edge (Take e) = Some e
taken_edge _ = None

-- it is this edge
abbrev pub is_edge : ℕ → Option ℕ → Bool
is_edge e (Some i) = i == e
is_edge e None = false

abbrev pub is_claim_of : ℕ → Event → Bool
is_claim_of e x = is_edge e (claimed_edge x)

abbrev pub is_take_of : ℕ → Event → Bool
is_take_of e x = is_edge e (taken_edge x)

-- the number of these events on this edge
abbrev pub count_among : (Event → Bool) → List Event → ℕ
count_among test [] = 0
count_among test (x ∷ xs) = (if test x then 1 else 0) + count_among test xs

-- these counts are those of the events on each edge
pub record Counts (test : ℕ → Event → Bool) (edges : ℕ) (xs : List Event) (counts : List ℕ) : Type 0 where
  pub count_is : length counts ≡ edges
  pub each : (e : ℕ) → e < edges → slice_index counts e ≡ count_among (test e) xs
  pub few : (e : ℕ) → e < edges → slice_index counts e ≤ length xs

-- the count of this edge is one more, if it is there
abbrev pub CountsMore : Option ℕ → List ℕ → List ℕ → Type 0
CountsMore edge old new = (length new ≡ length old)
    × ((e : ℕ) → e < length old → slice_index new e ≡ slice_index old e + (if is_edge e edge then 1 else 0))

-- the lists after an event with this reply
abbrev pub sent_after : Event → Reply → List Lane → List Lane
sent_after (Claim e) (Sent message) lanes = with_message e message lanes
sent_after (Feed e k) (Sent message) lanes = with_message e message lanes
sent_after _ _ lanes = lanes

abbrev pub delivered_after : Event → Reply → List Lane → List Lane
delivered_after (Take e) (Got message) lanes = with_message e message lanes
delivered_after _ _ lanes = lanes

-- a message that was sent, or delivered, is of an edge less than `edges`
abbrev pub SentOnEdge : Event → Reply → ℕ → Type 0
SentOnEdge (Claim e) (Sent message) edges = e < edges
SentOnEdge (Feed e k) (Sent message) edges = e < edges
SentOnEdge _ _ edges = Unit {0}

abbrev pub GotOnEdge : Event → Reply → ℕ → Type 0
GotOnEdge (Take e) (Got message) edges = e < edges
GotOnEdge _ _ edges = Unit {0}

-- there is room for each message that these events may add
abbrev pub HasRoomForEvents : (ℕ → Event → Bool) → List Event → List Lane → Type 0
HasRoomForEvents test xs lanes = (e : ℕ) → e < length lanes
    → length (lane_at lanes e).messages + count_among (test e) xs ≤ (lane_at lanes e).capacity

-- a list at the start: these messages, with room for `room` more
abbrev pub IsOpenedLane : (List Message → Type 0) → ℕ → Lane → Type 0
IsOpenedLane P room lane = P lane.messages × (length lane.messages + room ≤ lane.capacity)

-- there is room for all that these events add
pub record HasRooms (xs : List Event) (n : Notes) : Type 0 where
  pub replies : vec_len n.replies + length xs ≤ vec_capacity n.replies
  pub sent : HasRoomForEvents is_claim_of xs n.sent
  pub delivered : HasRoomForEvents is_take_of xs n.delivered

-- for each edge, all messages are those listed, and then the rest
pub record AreAllListed (edges : ℕ) (all : ℕ → List Message) (lanes : List Lane) (rest : ℕ → List Message) : Type 0 where
  pub count_is : length lanes ≡ edges
  pub each : (e : ℕ) → e < edges → all e ≡ (lane_at lanes e).messages ++ rest e

-- of the events xs, run from the log, these are left to run from the log `now`, and the others are recorded
pub record IsNotedUpTo (g : Setting) (log : Log) (xs : List Event) (now : Log) (left : List Event)
    (n : Notes) : Type 0 where
  pub after : log_after g log xs ≡ log_after g now left
  pub replies : replies_to g log xs ≡ n.replies.items ++ replies_to g now left
  pub sent : AreAllListed (all_edges g) (to_deliver g log xs) n.sent (λ e. sent_in e left (replies_to g now left))
  pub delivered : AreAllListed (all_edges g) (delivered_on g log xs) n.delivered
      (λ e. delivered_in e left (replies_to g now left))

-- the record of the run of xs after this log: the replies; and for each edge, what was in flight before and what was
-- sent, and what was delivered
pub record IsRecordOf (g : Setting) (log : Log) (xs : List Event) (replies : List Reply)
    (sent delivered : List (List Message)) : Type 0 where
  pub replies_are : replies ≡ replies_to g log xs
  pub sent_each : length sent ≡ all_edges g
  pub sent_on_edge : (e : ℕ) → e < all_edges g → slice_index_or sent e [] ≡ to_deliver g log xs e
  pub delivered_each : length delivered ≡ all_edges g
  pub delivered_on_edge : (e : ℕ) → e < all_edges g → slice_index_or delivered e [] ≡ delivered_on g log xs e

-- in a run from the opening, the chips held on an edge of the graph and those sent are what the firings of its tail
-- made
abbrev pub IsHeldByReplies : Setting → Log → List Event → List Reply → Type 0
IsHeldByReplies g after xs replies =
    (e : ℕ) → e < graph_edges g
    → chips_in (sent_in e xs replies) + held g after e ≡ mult_of g e * fired_by g after (tail_of g e)

-- the world ran xs: it represents the log after them, this is the record, and the core theorem holds of the run
pub record RunsEvents (g : Setting) (log : Log) (xs : List Event) (new : WorldState) (r : Record) : Type 0 where
  pub world : StandsForLog g (log_after g log xs) new
  pub recorded : IsRecordOf g log xs r.replies.items (map (λ t. t.items) r.sent.items)
      (map (λ t. t.items) r.delivered.items)
  pub headline : Headline g log xs
  pub held : log ≡ [] → IsHeldByReplies g (log_after g log xs) xs r.replies.items
