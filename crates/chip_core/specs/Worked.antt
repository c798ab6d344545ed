-- Worked runs of the whole core, as the definitions compute them. Unless stated otherwise, the limit is 2 ^ 40 and the
-- ring has one cell.
use Rattle.std.specs.Prelude.{◌≡◌, ℕ, ◌^◌, true, false, List, [], ◌∷◌, ◌++◌, slice_index, Some}
use Rattle.chip_graph.specs.ChipGame.{IsGame}
use Rattle.chip_part.specs.Setting.{Setting, setting_of}
use Rattle.chip_sequence.specs.Firing.{legal_vertices}
use Rattle.chip_sequence.specs.Counted.{position_by_counts}
use Rattle.chip_part.specs.declared.cause.Cause.TheVariants.{SealedEdge, FiringLimit}
use Rattle.chip_part.specs.Worked.{small_triangle, chain, two_edges}
use Rattle.chip_part.specs.Steps.{message_of, saw}
use Rattle.chip_part.specs.declared.rule.Rule.TheVariants.{Zero, NotCleared, Engaged, NotClosed, Ended, TooMuch}
use Rattle.chip_part.specs.declared.reply.Reply.TheVariants.{Done, Got, Sent, Empty, Full, Sealed, NotNow}
use Rattle.chip_core.specs.Core.{Log, Event, Take, Ack, Fire, Clear, Claim, Put, Halt, Settle, Seal, Read, Feed, End}
use Rattle.chip_core.specs.Core.{root, part_in, fired_by, replies_to, log_after, IsSettled, IsClosed}
use Rattle.chip_core.specs.Messages.{sent_in, delivered_in, sent_after_seal, in_flight}
use Rattle.chip_core.specs.Positions.{chips_given, held, chips_at, full_position, firings}
use Rattle.chip_core.specs.Detection.{IsDetectionOrder}
use Rattle.chip_core.specs.Histories.{done_by}

-- a function on three vertices, as a list
abbrev pub on_vertices : (ℕ → ℕ) → List ℕ
on_vertices f = f 0 ∷ f 1 ∷ f 2 ∷ []

-- nine chips on the sink: its opening message is taken, acknowledged and settled, and then the root may read
abbrev pub ChipsOnTheSink : Type 0
ChipsOnTheSink =
    let g : Setting = small_triangle (0 ∷ 0 ∷ 9 ∷ []) in
    let events : List Event = Take 6 ∷ Ack 6 ∷ Settle 6 ∷ Read 2 ∷ [] in
    let after : Log = log_after g [] events in
    (replies_to g [] events ≡ Got (message_of 6 0 9) ∷ Done 1 ∷ Done 1 ∷ Done 0 ∷ [])
    × (on_vertices (fired_by g after) ≡ 0 ∷ 0 ∷ 0 ∷ []) × (on_vertices (chips_at g after) ≡ 0 ∷ 0 ∷ 9 ∷ [])

-- vertex 0 of the chain sends a chip, fires again, and finds the cell full
abbrev pub full_ring : List Event
full_ring = Take 2 ∷ Fire 0 1 ∷ Clear 0 ∷ Claim 0 ∷ Put 0 ∷ Fire 0 1 ∷ Clear 0 ∷ []

abbrev pub FullRing : Type 0
FullRing =
    (replies_to chain [] full_ring ≡ Got (message_of 2 0 3) ∷ Done 1 ∷ Done 0 ∷ Sent (message_of 0 0 1) ∷ Done 1
    ∷ Done 2 ∷ Full ∷ [])
    × (in_flight chain (log_after chain [] full_ring) 0 ≡ message_of 0 0 1 ∷ [])
    × (on_vertices (full_position chain (log_after chain [] full_ring)) ≡ 1 ∷ 2 ∷ 0 ∷ [])

-- an edge is sealed before the second half of a firing is sent on it: the claim is refused, and the vertex halts
abbrev pub sealed_half_way : List Event
sealed_half_way = Seal 1 ∷ Take 4 ∷ Fire 0 2 ∷ Clear 0 ∷ Claim 0 ∷ Put 0 ∷ Clear 1 ∷ Claim 1 ∷ Halt 0 ∷ []

abbrev pub CoreSealedHalfWay : Type 0
CoreSealedHalfWay =
    let g : Setting = small_triangle (4 ∷ 0 ∷ 0 ∷ []) in
    (replies_to g [] sealed_half_way ≡ Done 0 ∷ Got (message_of 4 0 4) ∷ Done 2 ∷ Done 0 ∷ Sent (message_of 0 0 2)
    ∷ Done 2 ∷ Done 0 ∷ Sealed ∷ Done 0 ∷ [])
    × (sent_in 0 sealed_half_way (replies_to g [] sealed_half_way) ≡ message_of 0 0 2 ∷ [])
    × (sent_after_seal 1 sealed_half_way (replies_to g [] sealed_half_way) ≡ [])
    × (on_vertices (full_position g (log_after g [] sealed_half_way)) ≡ 0 ∷ 2 ∷ 2 ∷ [])

-- the sink is engaged by the first of two messages, and acknowledges it last
abbrev pub engaging_message_last : List Event
engaging_message_last = Take 2 ∷ Fire 0 1 ∷ Clear 0 ∷ Claim 0 ∷ Put 0 ∷ Clear 1 ∷ Claim 1 ∷ Put 1 ∷ Take 0 ∷ Take 1
    ∷ Ack 0 ∷ Ack 1 ∷ Ack 0 ∷ []

abbrev pub EngagingMessageLast : Type 0
EngagingMessageLast =
    replies_to two_edges [] engaging_message_last
    ≡ Got (message_of 2 0 2) ∷ Done 1 ∷ Done 0 ∷ Sent (message_of 0 0 1) ∷ Done 1 ∷ Done 0 ∷ Sent (message_of 1 0 1)
    ∷ Done 1 ∷ Got (message_of 0 0 1) ∷ Got (message_of 1 0 1) ∷ NotNow Engaged ∷ Done 1 ∷ Done 1 ∷ []

-- three messages over a ring of two cells
abbrev pub wide_chain : Setting
wide_chain = record chain { ring = 2 }

abbrev pub ring_of_two : List Event
ring_of_two =
    Take 2 ∷ Fire 0 1 ∷ Clear 0 ∷ Claim 0 ∷ Put 0 ∷ Fire 0 1 ∷ Clear 0 ∷ Claim 0 ∷ Put 0 ∷ Fire 0 1 ∷ Clear 0 ∷ Take 0
    ∷ Clear 0 ∷ Claim 0 ∷ Put 0 ∷ Take 0 ∷ Take 0 ∷ Take 0 ∷ []

abbrev pub CoreRingOfTwo : Type 0
CoreRingOfTwo =
    (replies_to wide_chain [] ring_of_two
    ≡ Got (message_of 2 0 3) ∷ Done 1 ∷ Done 0 ∷ Sent (message_of 0 0 1) ∷ Done 1 ∷ Done 2 ∷ Done 1
    ∷ Sent (message_of 0 1 1) ∷ Done 1 ∷ Done 3 ∷ Full
    ∷ Got (message_of 0 0 1) ∷ Done 2 ∷ Sent (message_of 0 2 1) ∷ Done 1 ∷ Got (message_of 0 1 1)
    ∷ Got (message_of 0 2 1) ∷ Empty ∷ [])
    × (delivered_in 0 ring_of_two (replies_to wide_chain [] ring_of_two) ≡ message_of 0 0 1 ∷ message_of 0 1 1
    ∷ message_of 0 2 1 ∷ [])

-- a whole schedule of the small triangle with four chips: it closes the root of a game within the limits, with the
-- firings 0, 0, 1
abbrev pub whole_schedule : List Event
whole_schedule =
    Take 4 ∷ Fire 0 2 ∷ Clear 0 ∷ Claim 0 ∷ Put 0 ∷ Clear 1 ∷ Claim 1 ∷ Put 1 ∷ Take 0 ∷ Fire 1 1 ∷ Clear 2 ∷ Claim 2
    ∷ Put 2 ∷ Clear 3 ∷ Claim 3 ∷ Put 3 ∷ Take 1 ∷ Take 3
    ∷ Ack 3 ∷ Ack 1 ∷ Take 2 ∷ Settle 1 ∷ Ack 2 ∷ Settle 2 ∷ Settle 3 ∷ Ack 0 ∷ Settle 0 ∷ Ack 4 ∷ Settle 4 ∷ []

abbrev pub WholeSchedule : Type 0
WholeSchedule =
    let g : Setting = small_triangle (4 ∷ 0 ∷ 0 ∷ []) in
    let after : Log = log_after g [] whole_schedule in
    IsGame g.game × IsClosed g after × (firings after ≡ 0 ∷ 0 ∷ 1 ∷ []) × (on_vertices (fired_by g after) ≡ 2 ∷ 1 ∷ 0 ∷ [])
    × (on_vertices (chips_at g after) ≡ 1 ∷ 0 ∷ 3 ∷ [])

-- the same triangle with five chips and a limit of two firings: vertex 0 gets its third pair of chips and halts, and
-- the root closes
abbrev pub limit_of_two : Setting
limit_of_two =
    setting_of (record { graph = (small_triangle []).game.graph; start = 5 ∷ 0 ∷ 0 ∷ []; limit = 2 }) 1

abbrev pub stopped_by_limit : List Event
stopped_by_limit =
    Take 4 ∷ Fire 0 2 ∷ Clear 0 ∷ Claim 0 ∷ Put 0 ∷ Clear 1 ∷ Claim 1 ∷ Put 1 ∷ Take 0 ∷ Fire 1 1 ∷ Clear 2 ∷ Claim 2
    ∷ Put 2 ∷ Clear 3 ∷ Claim 3 ∷ Put 3 ∷ Take 1 ∷ Take 3
    ∷ Ack 3 ∷ Ack 1 ∷ Take 2 ∷ Fire 0 1 ∷ Halt 0 ∷ Settle 1 ∷ Ack 2 ∷ Settle 2 ∷ Settle 3 ∷ Ack 0 ∷ Settle 0 ∷ Ack 4
    ∷ Settle 4 ∷ []

abbrev pub StoppedByLimit : Type 0
StoppedByLimit =
    let g : Setting = limit_of_two in
    let after : Log = log_after g [] stopped_by_limit in
    IsGame g.game × IsClosed g after × ((part_in g after 0).halt ≡ Some FiringLimit)
    × (on_vertices (fired_by g after) ≡ 2 ∷ 1 ∷ 0 ∷ []) × (on_vertices (chips_at g after) ≡ 2 ∷ 0 ∷ 3 ∷ [])
    × (legal_vertices g.game.graph (chips_at g after) ≡ 0 ∷ [])

-- the run sealed half way, played on until the root closes: two chips are held for ever, and the counts lead to other
-- chips
abbrev pub played_on : List Event
played_on =
    sealed_half_way
    ++ Take 0 ∷ Fire 1 1 ∷ Clear 2 ∷ Claim 2 ∷ Put 2 ∷ Clear 3 ∷ Claim 3 ∷ Put 3 ∷ Take 3 ∷ Ack 3 ∷ Take 2 ∷ Settle 3
    ∷ Ack 2 ∷ Settle 2 ∷ Ack 0 ∷ Settle 0 ∷ Ack 4 ∷ Settle 4 ∷ []

abbrev pub StoppedBySeal : Type 0
StoppedBySeal =
    let g : Setting = small_triangle (4 ∷ 0 ∷ 0 ∷ []) in
    let after : Log = log_after g [] played_on in
    IsClosed g after × ((part_in g after 0).halt ≡ Some SealedEdge) × (on_vertices (fired_by g after) ≡ 2 ∷ 1 ∷ 0 ∷ [])
    × (on_vertices (chips_at g after) ≡ 1 ∷ 0 ∷ 1 ∷ [])
    × (held g after 1 ≡ 2) × (on_vertices (position_by_counts g.game.graph (slice_index g.game.start) (fired_by g after))
    ≡ 1 ∷ 0 ∷ 3 ∷ [])

-- the same triangle, fed while it runs
abbrev pub fed_triangle : List ℕ → Setting
fed_triangle start = record (small_triangle start) { fed = true }

-- three chips are fed to vertex 0, and no more while they are in the cell
abbrev pub fed_once : List Event
fed_once = Clear 4 ∷ Feed 4 3 ∷ Put 4 ∷ Clear 4 ∷ []

abbrev pub FedOnce : Type 0
FedOnce =
    let g : Setting = fed_triangle (0 ∷ 0 ∷ 0 ∷ []) in
    let after : Log = log_after g [] fed_once in
    (replies_to g [] fed_once ≡ Done 0 ∷ Sent (message_of 4 0 3) ∷ Done 3 ∷ Full ∷ [])
    × (in_flight g after 4 ≡ message_of 4 0 3 ∷ []) × (on_vertices (chips_given g after) ≡ 3 ∷ 0 ∷ 0 ∷ [])
    × (on_vertices (full_position g after) ≡ 3 ∷ 0 ∷ 0 ∷ [])

-- refused events: a feed of nothing, one to a cell not seen empty, one past the range of chips, and any after the end
abbrev pub RefusedFeeds : Type 0
RefusedFeeds =
    let g : Setting = fed_triangle (0 ∷ 0 ∷ 2 ^ 40 ∷ []) in
    replies_to g [] (Feed 4 0 ∷ Clear 4 ∷ Feed 4 1 ∷ End ∷ Clear 4 ∷ Feed 4 1 ∷ [])
    ≡ NotNow Zero ∷ Done 0 ∷ NotNow TooMuch ∷ Done 0 ∷ NotNow Ended ∷ NotNow Ended ∷ []

abbrev pub FedUncleared : Type 0
FedUncleared = replies_to (fed_triangle (0 ∷ 0 ∷ 0 ∷ [])) [] (Feed 4 1 ∷ []) ≡ NotNow NotCleared ∷ []

-- four chips are fed to vertex 0 of an empty triangle and played as from the start; all is settled, but the root closes
-- only once the end is noted
abbrev pub fed_schedule : List Event
fed_schedule = Clear 4 ∷ Feed 4 4 ∷ Put 4 ∷ whole_schedule

abbrev pub ClosedByTheEnd : Type 0
ClosedByTheEnd =
    let g : Setting = fed_triangle (0 ∷ 0 ∷ 0 ∷ []) in
    let before : Log = log_after g [] fed_schedule in
    let after : Log = log_after g before (End ∷ []) in
    IsGame g.game × IsSettled g before × ((part_in g before (root g)).ended ≡ false)
    × (replies_to g before (Read 0 ∷ End ∷ Read 0 ∷ []) ≡ NotNow NotClosed ∷ Done 0 ∷ Done 2 ∷ []) × IsClosed g after
    × (firings after ≡ 0 ∷ 0 ∷ 1 ∷ []) × (on_vertices (chips_at g after) ≡ 1 ∷ 0 ∷ 3 ∷ [])

-- vertex 1 was engaged by vertex 0, and vertex 0 by the root: so the detection order has them, the latest first, and
-- not the sink
abbrev pub two_engaged : List Event
two_engaged = Take 4 ∷ Fire 0 2 ∷ Clear 0 ∷ Claim 0 ∷ Put 0 ∷ Take 0 ∷ []

abbrev pub TwoEngaged : Type 0
TwoEngaged =
    let g : Setting = small_triangle (4 ∷ 0 ∷ 0 ∷ []) in
    let after : Log = log_after g [] two_engaged in
    IsDetectionOrder g after (1 ∷ 0 ∷ []) × (done_by g 1 after ≡ saw (Take 0) 2 ∷ [])
    × (done_by g 0 after ≡ saw (Take 4) 4 ∷ saw (Fire 0 2) 0 ∷ saw (Clear 0) 0 ∷ saw (Claim 0) 0 ∷ saw (Put 0) 0 ∷ [])
