-- The invariants of a part under its own events, whatever these see: all theorems on the whole core depend on them.
use Rattle.std.specs.Prelude.{◌≡◌, ◌≢◌, ◌⊎◌, ℕ, ◌+◌, ◌*◌, ◌<◌, ◌≤◌, true, false, Some, None, length, sum}
use Rattle.std.specs.Prelude.{option_to_list}
use Rattle.chip_graph.specs.Multigraph.{degree}
use Rattle.chip_part.specs.Setting.{Setting}
use Rattle.chip_link.specs.Link.{Tail, claims_of}
use Rattle.chip_part.specs.declared.cause.Cause.TheVariants.{FiringLimit}
use Rattle.chip_part.specs.Edges.{graph_edges, all_edges, tail_of, head_of, over_ins, chips_of_firings, root}
use Rattle.chip_part.specs.Part.{Part, Cause, owed_on, may_ack_on, pending_of, unput_count, cause, deficit_of, owed_by}
use Rattle.chip_part.specs.Part.{is_passive, is_legal, all_fed, first_put}
use Rattle.chip_part.specs.Rules.{Event, Take, Ack, Fire, Clear, Claim, Put, Halt, Settle, Seal, Read, Feed, End}
use Rattle.chip_graph.specs.Limits.{max_total}

-- the meaning of an event's rules
abbrev pub Met : Setting → Event → Part → Type 0
Met g (Take e) s = e < all_edges g
Met g (Ack e) s = (e < all_edges g) × (0 < owed_on (s.into e)) × (0 < may_ack_on g (head_of g e) s e)
Met g (Fire v k) s =
    (v < g.game.graph.vertices) × (v ≢ g.game.graph.sink) × (s.halt ≡ None) × (pending_of g v s ≡ 0) × (unput_count g v s ≡ 0) × (0 < k)
    × (s.fired + k ≤ g.game.limit) × (k * degree g.game.graph v ≤ s.chips)
Met g (Clear e) s =
    ((e < graph_edges g) × (s.halt ≡ None) × ((s.out e).link.refused ≡ false) × (0 < (s.out e).pending))
    ⊎ ((graph_edges g ≤ e) × (e < all_edges g) × (s.ended ≡ false) × ((s.out e).link.held ≡ None))
Met g (Claim e) s = (e < graph_edges g) × (s.halt ≡ None) × ((s.out e).link.clear ≡ true)
Met g (Put e) s = (e < all_edges g) × ((count : ℕ) × ((s.out e).link.held ≡ Some count))
Met g (Halt v) s = (v < g.game.graph.vertices) × (v ≢ g.game.graph.sink) × (s.halt ≡ None) × (unput_count g v s ≡ 0)
    × ((c : Cause) × (cause g v s ≡ Some c))
Met g (Settle e) s = e < all_edges g
Met g (Seal e) s = e < graph_edges g
Met g (Read v) s = (v < g.game.graph.vertices) × (deficit_of g (root g) s ≡ 0) × (s.ended ≡ true)
Met g (Feed e k) s = (graph_edges g ≤ e) × (e < all_edges g) × (s.ended ≡ false) × (0 < k)
    × (all_fed g s + k ≤ max_total) × ((s.out e).link.clear ≡ true)
Met g End s = Unit {0}

-- a neutral vertex
pub record IsNeutral (g : Setting) (v : ℕ) (s : Part) : Type 0 where
  pub no_parent : s.parent ≡ None
  pub passive : is_passive g v s ≡ true
  pub nothing_owed : owed_by g v s ≡ 0
  pub no_deficit : deficit_of g v s ≡ 0

-- the tail of an edge as it opens
abbrev pub opening_tail : Setting → ℕ → Tail
opening_tail g e = record { put = first_put g e; held = None; clear = false; refused = false }

-- the invariants of a part on an edge out of it. Those on notes and pending chips are only for graph edges
pub record KeepsOut (g : Setting) (e : ℕ) (t : Tail) (pending fired : ℕ) : Type 0 where
  -- what was put, what is claimed and what is pending is what the firings made
  pub all_made : e < graph_edges g → (sum t.put + sum (option_to_list t.held)) + pending ≡ chips_of_firings g e fired
  -- there is a firing for each message, and one more while something is pending
  pub fewer : e < graph_edges g → claims_of t ≤ fired
  pub fewer_yet : e < graph_edges g → 0 < pending → claims_of t < fired
  -- a note of clear or of a refusal is about something that is pending
  pub clear_pends : e < graph_edges g → t.clear ≡ true → 0 < pending
  pub refused_pends : e < graph_edges g → t.refused ≡ true → 0 < pending
  pub clear_open : e < graph_edges g → t.clear ≡ true → t.refused ≡ false
  -- nothing is claimed while something is pending
  pub free_hand : e < graph_edges g → 0 < pending → t.held ≡ None
  pub root_idle : graph_edges g ≤ e → pending ≡ 0
  -- without feeding, a root edge stays as it opened
  pub root_unfed : graph_edges g ≤ e → g.fed ≡ false → t ≡ opening_tail g e

-- the invariants of the part p
pub record KeepsPart (g : Setting) (p : ℕ) (s : Part) : Type 0 where
  pub outs : (e : ℕ) → tail_of g e ≡ p → KeepsOut g e (s.out e).link (s.out e).pending s.fired
  -- what it took is what it has and what it fired
  pub chips_are : s.chips + degree g.game.graph p * s.fired ≡ over_ins g p (λ e. sum (s.into e).got)
  pub within : s.fired ≤ g.game.limit
  pub acks : (e : ℕ) → (s.into e).acked ≤ length (s.into e).got
  -- its parent is an edge into it on which it owes something
  pub parents : (e : ℕ) → s.parent ≡ Some e → (e < all_edges g) × (head_of g e ≡ p) × (0 < owed_on (s.into e))
  -- halted by the limit it stays legal, with nothing pending
  pub at_limit : s.halt ≡ Some FiringLimit → (s.fired ≡ g.game.limit) × (pending_of g p s ≡ 0) × (is_legal g p s ≡ true)
  -- a vertex without a parent is done
  pub neutral : p < g.game.graph.vertices → s.parent ≡ None → IsNeutral g p s
  -- all that was fed is within the range of chips, and without feeding the end is noted
  pub fed_within : p ≡ root g → all_fed g s ≤ max_total
  pub unfed_ended : g.fed ≡ false → s.ended ≡ true
