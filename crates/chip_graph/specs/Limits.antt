-- The sizes of a game.
use Rattle.std.specs.Prelude.{ℕ, ◌^◌, ◌≤◌, nat_le, ◌&&◌, if◌then◌else◌, Option, Some, None}

-- the most vertices of any graph
abbrev pub max_vertices : ℕ
max_vertices = 2 ^ 21

-- the most edges of any graph
abbrev pub max_edges : ℕ
max_edges = 2 ^ 23

-- the most bytes of any text of a game
abbrev pub max_text : ℕ
max_text = 2 ^ 28

-- the most chips that one firing sends along one edge
abbrev pub max_mult : ℕ
max_mult = 2 ^ 20

-- the most chips of a game
abbrev pub max_total : ℕ
max_total = 2 ^ 40

-- the greatest firing limit
abbrev pub max_limit : ℕ
max_limit = 2 ^ 40

-- the most vertices and edges of a graph, and the most bytes of each text of its game
pub record SizeLimits : Type 0 where
  pub vertices : ℕ
  pub edges : ℕ
  pub bytes : ℕ

-- the default limits
abbrev pub standard : SizeLimits
standard = record { vertices = 4096; edges = 65536; bytes = 2 ^ 24 }

-- the greatest limits
abbrev pub large : SizeLimits
large = record { vertices = max_vertices; edges = max_edges; bytes = max_text }

-- limits of which none is above the greatest
pub record AreLimits (limits : SizeLimits) : Type 0 where
  pub few_vertices : limits.vertices ≤ max_vertices
  pub few_edges : limits.edges ≤ max_edges
  pub few_bytes : limits.bytes ≤ max_text

-- these limits, if none is above the greatest
abbrev pub checked_limits : ℕ → ℕ → ℕ → Option SizeLimits
checked_limits vertices edges bytes =
    if nat_le vertices max_vertices && nat_le edges max_edges && nat_le bytes max_text
    then Some (record { vertices = vertices; edges = edges; bytes = bytes })
    else None
