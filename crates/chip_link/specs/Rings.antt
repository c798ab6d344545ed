-- The number of cells in the ring of an edge.
use Rattle.std.specs.Prelude.{ℕ, ◌<◌, ◌≤◌, ◌&&◌, nat_lt, nat_le, if◌then◌else◌, Option, Some, None}

-- the most cells of a ring
abbrev pub max_ring : ℕ
max_ring = 64

-- a ring may have this number of cells
abbrev pub IsRing : ℕ → Type 0
IsRing cells = (0 < cells) × (cells ≤ max_ring)

-- the ring with this number of cells, if there is one
abbrev pub ring_of : ℕ → Option ℕ
ring_of cells = if nat_lt 0 cells && nat_le cells max_ring then Some cells else None
