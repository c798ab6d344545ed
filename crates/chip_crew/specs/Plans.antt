-- The valid plans of a crew.
use Rattle.std.specs.Prelude.{ℕ, ◌^◌, Bool, true, ◌&&◌, nat_lt, nat_le, List, length, Option, Some, None}
use Rattle.std.specs.List.{list_all}
use Rattle.chip_graph.specs.ChipGame.{ChipGame}
use Rattle.chip_link.specs.Rings.{max_ring}
use Rattle.chip_crew.specs.declared.plan.Plan.{Plan}
use Rattle.chip_crew.specs.declared.plan.SealAt.{SealAt}

-- the most workers of a crew
abbrev pub max_workers : ℕ
max_workers = 64

-- the most turns of each worker
abbrev pub max_turns : ℕ
max_turns = 2 ^ 40

-- the most trace rows of each actor
abbrev pub max_trace_rows : ℕ
max_trace_rows = 2 ^ 20

-- from 1 to `most`
abbrev pub is_within : ℕ → ℕ → Bool
is_within most n = nat_lt 0 n && nat_le n most

-- the edge to seal is an edge of the graph
abbrev pub seals_edge : ChipGame → Option SealAt → Bool
seals_edge game None = true
seals_edge game (Some at) = nat_lt at.edge (length game.graph.edges)

-- the numbers are in their ranges
abbrev pub is_plan : ChipGame → Plan → Bool
is_plan game plan = is_within max_workers plan.workers && is_within max_ring plan.ring && is_within max_turns plan.turns
    && nat_le plan.trace_rows max_trace_rows && seals_edge game plan.seal

-- each is of 1 chip or more for a vertex of the graph
abbrev pub are_feeds : ChipGame → List (ℕ × ℕ) → Bool
are_feeds game feeds = list_all (λ pair. nat_lt pair.0 game.graph.vertices && nat_lt 0 pair.1) feeds

-- plan and feeds are in their ranges
abbrev pub is_fed_plan : ChipGame → List (ℕ × ℕ) → Plan → Bool
is_fed_plan game feeds plan = is_plan game plan && are_feeds game feeds
