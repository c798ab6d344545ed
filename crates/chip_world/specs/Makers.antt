-- The vertex that makes an event.
use Rattle.std.specs.Prelude.{ℕ, Bool, true, false, nat_lt, if◌then◌else◌, Option, Some, None}
use Rattle.chip_part.specs.Setting.{Setting}
use Rattle.chip_part.specs.Edges.{graph_edges, head_if, tail_if}
use Rattle.chip_core.specs.Core.{Event}
use Rattle.chip_part.specs.Rules.{Take, Ack, Fire, Clear, Claim, Put, Halt, Settle, Seal, Read, Feed, End}

-- a vertex, if it is one
abbrev pub vertex_if : Setting → ℕ → Option ℕ
vertex_if g v = if nat_lt v g.game.graph.vertices then Some v else None

-- an edge after the graph's
abbrev pub is_root_edge : Setting → ℕ → Bool
is_root_edge g e = if nat_lt e (graph_edges g) then false else true

-- an event that no vertex makes: a seal is the stopper's; reads, feeds and the end of feeding are the root's, and so
-- are the look, the put and the settle of a root edge
abbrev pub is_of_others : Setting → Event → Bool
is_of_others g (Clear e) = is_root_edge g e
is_of_others g (Put e) = is_root_edge g e
is_of_others g (Settle e) = is_root_edge g e
is_of_others g (Seal e) = true
is_of_others g (Read v) = true
is_of_others g (Feed e k) = true
is_of_others g End = true
is_of_others g _ = false

-- an event by an `Act` on its word: all but a seal and a read
abbrev pub is_by_act : Event → Bool
is_by_act (Seal e) = false
is_by_act (Read v) = false
is_by_act _ = true

-- the vertex that makes an event, if the event names an existing edge or vertex
abbrev pub vertex_of : Setting → Event → Option ℕ
vertex_of g (Take e) = head_if g e
vertex_of g (Ack e) = head_if g e
vertex_of g (Fire v k) = vertex_if g v
vertex_of g (Clear e) = tail_if g e
vertex_of g (Claim e) = tail_if g e
vertex_of g (Put e) = tail_if g e
vertex_of g (Halt v) = vertex_if g v
vertex_of g (Settle e) = tail_if g e
vertex_of g (Seal e) = None
vertex_of g (Read v) = None
vertex_of g (Feed e k) = None
vertex_of g End = None
