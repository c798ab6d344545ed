-- Worked ends, as the definitions compute them: the number of messages the root waits for, round by round. An idle turn
-- settles and acknowledges; its takes find nothing and are left out, and so are acknowledgements that aren't due.
use Rattle.std.specs.Prelude.{◌≡◌, ℕ, ◌^◌, List, [], ◌∷◌, ◌++◌}
use Rattle.chip_part.specs.Setting.{Setting, setting_of}
use Rattle.chip_part.specs.Part.{deficit_of}
use Rattle.chip_part.specs.Worked.{small_triangle, chain, edge}
use Rattle.chip_core.specs.Core.{Log, Event, Take, Ack, Fire, Clear, Claim, Put, Settle, part_in, log_after, root}
use Rattle.chip_core.specs.Soon.{HasTerminated, IsTreeAtMostDeep, acks_left}

abbrev pub root_waits : Setting → Log → ℕ
root_waits g log = deficit_of g (root g) (part_in g log (root g))

-- the chain 0, 1, 2, whose vertices are all engaged: the tree is three deep. Root edge v has the number 2 + v
abbrev pub chain_fired : List Event
chain_fired = Take 2 ∷ Fire 0 3 ∷ Clear 0 ∷ Claim 0 ∷ Put 0 ∷ Take 0 ∷ Fire 1 3 ∷ Clear 1 ∷ Claim 1 ∷ Put 1 ∷ Take 1 ∷ []

abbrev pub root_settles_chain : List Event
root_settles_chain = Settle 2 ∷ Settle 3 ∷ Settle 4 ∷ []

-- ascending, each turn settles what the next vertex acknowledged a round before: the third round closes the root
abbrev pub ascending : List Event
ascending = Settle 0 ∷ Ack 2 ∷ Settle 1 ∷ Ack 0 ∷ Ack 1 ∷ root_settles_chain

-- descending, one round does: six steps advance, as many as are left
abbrev pub descending : List Event
descending = Ack 1 ∷ Settle 1 ∷ Ack 0 ∷ Settle 0 ∷ Ack 2 ∷ root_settles_chain

abbrev pub ChainCloses : Type 0
ChainCloses =
    let log : Log = log_after chain [] chain_fired in
    (root_waits chain (log_after chain log (ascending ++ ascending)) ≡ 1)
    × (root_waits chain (log_after chain log (ascending ++ (ascending ++ ascending))) ≡ 0)
    × (root_waits chain (log_after chain log descending) ≡ 0) × (acks_left chain log ≡ 6)

-- a star: 1 and 2 send to the sink 0, which edge 0 engages: two deep. Root edge v has the number 2 + v
abbrev pub star : Setting
star = setting_of (record {
  graph = record { vertices = 3; sink = 0; edges = edge 1 0 ∷ edge 2 0 ∷ [] };
  start = 0 ∷ 1 ∷ 1 ∷ [];
  limit = 2 ^ 40;
}) 1

abbrev pub star_fired : List Event
star_fired = Take 3 ∷ Take 4 ∷ Fire 1 1 ∷ Fire 2 1 ∷ Clear 0 ∷ Claim 0 ∷ Put 0 ∷ Clear 1 ∷ Claim 1 ∷ Put 1 ∷ Take 0
    ∷ Take 1 ∷ []

-- the sink last: the second round closes the root, for any number of vertices that send to it
abbrev pub sink_last : List Event
sink_last = Settle 0 ∷ Ack 3 ∷ Settle 1 ∷ Ack 4 ∷ Ack 0 ∷ Ack 1 ∷ Ack 0 ∷ Settle 2 ∷ Settle 3 ∷ Settle 4 ∷ []

abbrev pub StarCloses : Type 0
StarCloses =
    let log : Log = log_after star [] star_fired in
    (root_waits star (log_after star log sink_last) ≡ 2)
    × (root_waits star (log_after star log (sink_last ++ sink_last)) ≡ 0)

-- the triangle with four chips on vertex 0, which engages vertex 1 and owes it a message: two are engaged, two deep.
-- Root edge v has the number 4 + v
abbrev pub four_chips : Setting
four_chips = small_triangle (4 ∷ 0 ∷ 0 ∷ [])

abbrev pub sent_back : List Event
sent_back = Take 4 ∷ Fire 0 2 ∷ Clear 0 ∷ Claim 0 ∷ Put 0 ∷ Take 0 ∷ Fire 1 1 ∷ Clear 2 ∷ Claim 2 ∷ Put 2 ∷ Take 2
    ∷ Clear 1 ∷ Claim 1 ∷ Put 1 ∷ Take 1 ∷ Ack 1 ∷ Clear 3 ∷ Claim 3 ∷ Put 3 ∷ Take 3 ∷ Ack 3 ∷ []

-- vertex 1 first, which waits for the message that vertex 0 acknowledges after it; then vertex 0 first, which waits for
-- vertex 1. So at least three rounds close the root: one more than two
abbrev pub second_first : List Event
second_first = Settle 2 ∷ Settle 3 ∷ Ack 0 ∷ Settle 0 ∷ Settle 1 ∷ Ack 2 ∷ Ack 4 ∷ Settle 4 ∷ Settle 5 ∷ Settle 6 ∷ []

abbrev pub first_first : List Event
first_first = Settle 0 ∷ Settle 1 ∷ Ack 2 ∷ Ack 4 ∷ Settle 2 ∷ Settle 3 ∷ Ack 0 ∷ Settle 4 ∷ Settle 5 ∷ Settle 6 ∷ []

abbrev pub PairCloses : Type 0
PairCloses =
    let log : Log = log_after four_chips [] sent_back in
    HasTerminated four_chips log × IsTreeAtMostDeep four_chips log 2
    × (root_waits four_chips (log_after four_chips log (second_first ++ first_first)) ≡ 1)
    × (root_waits four_chips (log_after four_chips log (second_first ++ (first_first ++ first_first))) ≡ 0)
