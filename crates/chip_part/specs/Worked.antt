-- Worked runs of one part, as the definitions compute them. A ring has one cell.
use Rattle.std.specs.Prelude.{◌≡◌, ℕ, ◌^◌, true, List, [], ◌∷◌, Some, None}
use Rattle.chip_graph.specs.Limits.{max_limit}
use Rattle.chip_graph.specs.declared.edge.Edge.{Edge}
use Rattle.chip_part.specs.Setting.{Setting, setting_of}
use Rattle.chip_part.specs.declared.rule.Rule.TheVariants.{Halted, Engaged, NothingPending}
use Rattle.chip_part.specs.declared.reply.Reply.TheVariants.{Done, Got, Sent, Full, Sealed, NotNow}
use Rattle.chip_part.specs.declared.cause.Cause.TheVariants.{SealedEdge}
use Rattle.chip_part.specs.Part.{Part, opening_part, is_passive, deficit_of, owed_by}
use Rattle.chip_part.specs.Rules.{Take, Ack, Fire, Clear, Claim, Put, Halt, Settle, Seal}
use Rattle.chip_part.specs.Turn.{IsTurn}
use Rattle.chip_part.specs.Counting.{work_of}
use Rattle.chip_part.specs.Steps.{Step, message_of, replies, part_after, saw}

-- an edge with one chip for each firing
abbrev pub edge : ℕ → ℕ → Edge
edge tail head = record { tail = tail; head = head; mult = 1 }

-- two vertices that send to each other, and both to the sink 2
abbrev pub small_triangle : List ℕ → Setting
small_triangle start = setting_of (record {
  graph = record {
    vertices = 3;
    sink = 2;
    edges = edge 0 1 ∷ edge 0 2 ∷ edge 1 0
        ∷ edge 1 2 ∷ [];
  };
  start = start;
  limit = max_limit;
}) 1

-- a chain of two edges, with three chips in front
abbrev pub chain : Setting
chain = setting_of (record {
  graph = record { vertices = 3; sink = 2; edges = edge 0 1 ∷ edge 1 2 ∷ [] };
  start = 3 ∷ 0 ∷ 0 ∷ [];
  limit = max_limit;
}) 1

-- two edges from vertex 0 to the sink 1
abbrev pub two_edges : Setting
two_edges = setting_of (record {
  graph = record { vertices = 2; sink = 1; edges = edge 0 1 ∷ edge 0 1 ∷ [] };
  start = 2 ∷ 0 ∷ [];
  limit = max_limit;
}) 1

-- vertex 0 of the chain sends one chip, fires again, and finds the cell full
abbrev pub SentWithFullRing : Type 0
SentWithFullRing =
    replies chain (opening_part chain)
    (saw (Take 2) 3 ∷ saw (Fire 0 1) 0 ∷ saw (Clear 0) 0 ∷ saw (Claim 0) 0 ∷ saw (Put 0) 0
    ∷ saw (Clear 0) 0 ∷ saw (Fire 0 1) 1 ∷ saw (Clear 0) 1 ∷ [])
    ≡ Got (message_of 2 0 3) ∷ Done 1 ∷ Done 0 ∷ Sent (message_of 0 0 1) ∷ Done 1 ∷ NotNow NothingPending ∷ Done 2
    ∷ Full ∷ []

-- vertex 0 of the triangle fires twice, sends to vertex 1, and finds the edge to the sink sealed
abbrev pub half_sent : List Step
half_sent = saw (Take 4) 4 ∷ saw (Fire 0 2) 0 ∷ saw (Clear 0) 0 ∷ saw (Claim 0) 0 ∷ saw (Put 0) 0 ∷ saw (Clear 1) 0
    ∷ saw (Claim 1) (2 ^ 63) ∷ saw (Halt 0) 2 ∷ []

abbrev pub SealedHalfWay : Type 0
SealedHalfWay =
    let g : Setting = small_triangle (4 ∷ 0 ∷ 0 ∷ []) in
    let after : Part = part_after g (opening_part g) half_sent in
    (replies g (opening_part g) (saw (Seal 1) 0 ∷ []) ≡ Done 0 ∷ [])
    × (replies g (opening_part g) half_sent
    ≡ Got (message_of 4 0 4) ∷ Done 2 ∷ Done 0 ∷ Sent (message_of 0 0 2) ∷ Done 2
    ∷ Done 0 ∷ Sealed ∷ Done 0 ∷ [])
    × (after.halt ≡ Some SealedEdge) × (after.fired ≡ 2) × (after.chips ≡ 0) × ((after.out 1).pending ≡ 2)
    × (is_passive g 0 after ≡ true) × (deficit_of g 0 after ≡ 1)
    × (replies g after (saw (Fire 0 1) 0 ∷ saw (Clear 1) 0 ∷ saw (Take 2) 1 ∷ saw (Settle 0) 1 ∷ saw (Ack 2) 0
    ∷ saw (Ack 4) 0 ∷ []) ≡ NotNow Halted ∷ NotNow Halted ∷ Got (message_of 2 0 1) ∷ Done 1 ∷ Done 1 ∷ Done 1 ∷ [])

-- the sink is engaged by the first of two messages, and acknowledges it last
abbrev pub SinkAcknowledgesLast : Type 0
SinkAcknowledgesLast =
    let events : List Step = saw (Take 0) 1 ∷ saw (Take 1) 1 ∷ saw (Ack 0) 0 ∷ saw (Ack 1) 0 ∷ saw (Ack 0) 0 ∷ [] in
    let after : Part = part_after two_edges (opening_part two_edges) events in
    (replies two_edges (opening_part two_edges) events
    ≡ Got (message_of 0 0 1) ∷ Got (message_of 1 0 1) ∷ NotNow Engaged
    ∷ Done 1 ∷ Done 1 ∷ [])
    × (after.parent ≡ None) × (owed_by two_edges 1 after ≡ 0)

-- the first turn of vertex 0 of the triangle, with four chips: it takes them, fires twice, and sends on both edges
abbrev pub first_turn : List Step
first_turn =
    saw (Take 2) 0 ∷ saw (Take 4) 4 ∷ saw (Settle 0) 0 ∷ saw (Settle 1) 0 ∷ saw (Fire 0 2) 0 ∷ saw (Clear 0) 0
    ∷ saw (Claim 0) 0 ∷ saw (Put 0) 0 ∷ saw (Clear 1) 0 ∷ saw (Claim 1) 0 ∷ saw (Put 1) 0
    ∷ []

abbrev pub FirstTurn : Type 0
FirstTurn =
    let g : Setting = small_triangle (4 ∷ 0 ∷ 0 ∷ []) in
    IsTurn g 0 (opening_part g) first_turn × (work_of g (opening_part g) first_turn ≡ 6)

-- a turn that begins in the middle of another, with a message claimed and not put: it is put, and the vertex doesn't
-- fire though two chips are left
abbrev pub sent_in_part : List Step
sent_in_part = saw (Take 4) 6 ∷ saw (Fire 0 2) 0 ∷ saw (Clear 0) 0 ∷ saw (Claim 0) 0 ∷ saw (Put 0) 0 ∷ saw (Clear 1) 0
    ∷ saw (Claim 1) 0 ∷ []

abbrev pub second_turn : List Step
second_turn = saw (Take 2) 0 ∷ saw (Take 4) 0 ∷ saw (Settle 0) 0 ∷ saw (Settle 1) 0 ∷ saw (Put 1) 0 ∷ []

abbrev pub TurnBegunInTheMiddle : Type 0
TurnBegunInTheMiddle =
    let g : Setting = small_triangle (6 ∷ 0 ∷ 0 ∷ []) in
    let s : Part = part_after g (opening_part g) sent_in_part in
    (s.chips ≡ 2) × IsTurn g 0 s second_turn
