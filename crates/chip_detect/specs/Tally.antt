-- Tallies of edges: the number of messages on each edge, and the number of answered ones. On an edge into a vertex a
-- message is answered by the vertex's own acknowledgement, on an edge out of it by one that the vertex has settled.
-- Other messages are open.
use Rattle.std.specs.Prelude.{◌≡◌, ℕ, ◌+◌, ◌-◌, ◌^◌, ◌≤◌, ◌==◌, if◌then◌else◌, List, [], ◌∷◌, length, map, sum_by, get_or}
use Rattle.std.specs.Prelude.{Contains}
use Rattle.std.specs.List.Sorted.{IsStrictlyIncreasing}
pub use Rattle.chip_detect.specs.declared.tallies.Tally.{Tally}

-- the greatest number of messages on one edge
abbrev pub message_limit : ℕ
message_limit = 2 ^ 40

-- the greatest number of edges on one side of a vertex: all edges of a graph and a root edge
abbrev pub edge_limit : ℕ
edge_limit = 2 ^ 23 + 1

-- the edges that have a tally, in its order
abbrev pub edges_of : List Tally → List ℕ
edges_of ts = map (λ t. t.edge) ts

-- the tally at an index
abbrev pub tally_at : List Tally → ℕ → Tally
tally_at ts i = get_or ts i (record { edge = 0; messages = 0; answered = 0 })

-- what f reads off the tally of the edge e; 0 if e has none
abbrev pub look : (Tally → ℕ) → List Tally → ℕ → ℕ
look f [] e = 0
look f (t ∷ ts) e = if t.edge == e then f t else look f ts e

-- the number of messages on an edge
abbrev pub messages_on : List Tally → ℕ → ℕ
messages_on ts = look (λ t. t.messages) ts

-- the number of answered messages on an edge
abbrev pub answered_on : List Tally → ℕ → ℕ
answered_on ts = look (λ t. t.answered) ts

-- the number of open messages on an edge
abbrev pub open_on : List Tally → ℕ → ℕ
open_on ts e = messages_on ts e - answered_on ts e

-- the number of open messages on all edges together
abbrev pub all_open : List Tally → ℕ
all_open ts = sum_by (open_on ts) (edges_of ts)

-- each edge has one tally, within the limits, and no more messages are answered than there were
pub record AreTallies (ts : List Tally) : Type 0 where
  pub ascending : IsStrictlyIncreasing (edges_of ts)
  pub few : length (edges_of ts) ≤ edge_limit
  pub within : (e : ℕ) → messages_on ts e ≤ message_limit
  pub answered : (e : ℕ) → answered_on ts e ≤ messages_on ts e

-- the edges of a given list, in any order and with repetitions
pub record AreEdgesOf (given edges : List ℕ) : Type 0 where
  pub all : (e : ℕ) → Contains given e → Contains edges e
  pub none_else : (e : ℕ) → Contains edges e → Contains given e

-- the tally of an edge without any message
abbrev pub fresh_tally : ℕ → Tally
fresh_tally e = record { edge = e; messages = 0; answered = 0 }

-- the edges of a list have a tally each, without any message
pub record AreFresh (ts : List Tally) (edges : List ℕ) : Type 0 where
  pub these : AreEdgesOf edges (edges_of ts)
  pub messages : (e : ℕ) → messages_on ts e ≡ 0
  pub answered : (e : ℕ) → answered_on ts e ≡ 0
