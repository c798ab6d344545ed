-- The ends of a vertex's edges as its actor keeps them: the numbers of the edges, ascending, and for each what is at
-- that place.
use Rattle.std.specs.Prelude.{◌≡◌, ℕ, ◌+◌, ◌*◌, ◌<◌, ◌≤◌, ◌==◌, if◌then◌else◌, Bool, true, false, List, [], ◌∷◌, ◌++◌}
use Rattle.std.specs.Prelude.{length, map, slice_index, slice_set, Option, Some, None}
use Rattle.std.specs.List.{Contains}
use Rattle.std.specs.List.Sorted.{IsStrictlyIncreasing}
use Rattle.chip_link.specs.Ends.{HeadState, new_tail, new_head, tail_after_clear, tail_after_claim, tail_after_put}
use Rattle.chip_graph.specs.Multigraph.{Multigraph, edge_at, edges_out, edges_in}
pub use Rattle.chip_actor.specs.declared.ends.outs.OutEnd.{OutEnd}

-- what is at the place of an edge, or else this
abbrev pub on_edge : {T : Type 0} → T → List ℕ → List T → ℕ → T
on_edge none [] ts e = none
on_edge none (x ∷ xs) [] e = none
on_edge none (x ∷ xs) (t ∷ ts) e = if x == e then t else on_edge none xs ts e

-- the edges out of a vertex
pub record OutEnds : Type 0 where
  pub edges : List ℕ
  pub ends : List OutEnd

-- the edges into a vertex
pub record InEnds : Type 0 where
  pub edges : List ℕ
  pub ends : List HeadState

-- the edges of these ends out of a vertex
abbrev pub out_ends_of : List OutEnd → OutEnds
out_ends_of ends = record { edges = map (λ (o : OutEnd). o.link.edge) ends; ends = ends }

-- the edges of these ends into a vertex
abbrev pub in_ends_of : List HeadState → InEnds
in_ends_of ends = record { edges = map (λ (h : HeadState). h.edge) ends; ends = ends }

-- the edges with this end at an index
abbrev pub with_end : OutEnds → ℕ → OutEnd → OutEnds
with_end os index end = record os { ends = slice_set os.ends index end }

-- the end of an edge that is not there
abbrev pub no_out : OutEnd
no_out = record { mult = 0; pending = 0; link = new_tail 0 1 }

-- an edge out of the vertex
abbrev pub out_on : OutEnds → ℕ → OutEnd
out_on os e = on_edge no_out os.edges os.ends e

-- an edge into it
abbrev pub in_on : InEnds → ℕ → HeadState
in_on is e = on_edge (new_head 0 1) is.edges is.ends e

-- each number has its end, and a search finds it
pub record AreApart {T : Type 0} (edges : List ℕ) (ends : List T) : Type 0 where
  pub ascending : IsStrictlyIncreasing edges
  pub one_each : length ends ≡ length edges

-- one edge is changed so, and every other is as it was
pub record ChangesOut (old new : OutEnds) (edge : ℕ) (f : OutEnd → OutEnd) : Type 0 where
  pub edges : new.edges ≡ old.edges
  pub each : (e : ℕ) → out_on new e ≡ (if edge == e then f (out_on old e) else out_on old e)

-- each edge is changed so
pub record ChangesOuts (old new : OutEnds) (f : OutEnd → OutEnd) : Type 0 where
  pub edges : new.edges ≡ old.edges
  pub each : (e : ℕ) → Contains old.edges e → out_on new e ≡ f (out_on old e)

-- one edge is changed so, and every other is as it was
pub record ChangesIn (old new : InEnds) (edge : ℕ) (f : HeadState → HeadState) : Type 0 where
  pub edges : new.edges ≡ old.edges
  pub each : (e : ℕ) → in_on new e ≡ (if edge == e then f (in_on old e) else in_on old e)

-- after a look at the cell
abbrev pub out_after_clear : ℕ → OutEnd → OutEnd
out_after_clear cell o = record o { link = tail_after_clear cell o.link }

-- after a claim for all that is pending, which saw this word
abbrev pub out_after_claim : ℕ → OutEnd → OutEnd
out_after_claim word o =
    record o { pending = if word == o.link.claims then 0 else o.pending; link = tail_after_claim word o.pending o.link }

-- after a put of what was claimed
abbrev pub out_after_put : OutEnd → OutEnd
out_after_put o = record o { link = tail_after_put o.link }

-- after k firings of the vertex
abbrev pub out_after_fire : ℕ → OutEnd → OutEnd
out_after_fire k o = record o { pending = k * o.mult }

-- an edge on which nothing was sent
abbrev pub fresh_out : Multigraph → ℕ → ℕ → OutEnd
fresh_out G ring e = record { mult = (edge_at G e).mult; pending = 0; link = new_tail e ring }

-- the ends of a vertex's edges as they open
pub record IsFreshOuts (G : Multigraph) (ring v : ℕ) (os : OutEnds) : Type 0 where
  pub edges : os.edges ≡ edges_out G v
  pub ends : os.ends ≡ map (fresh_out G ring) (edges_out G v)

pub record IsFreshIns (G : Multigraph) (ring v : ℕ) (is : InEnds) : Type 0 where
  pub edges : is.edges ≡ edges_in G v ++ (length G.edges + v) ∷ []
  pub ends : is.ends ≡ map (λ e. new_head e ring) is.edges

-- the first place from `from` on with an element that passes the test, if there is one
abbrev pub IsFirstFrom : (ℕ → Bool) → List ℕ → ℕ → Option ℕ → Type 0
IsFirstFrom test xs from None = (k : ℕ) → from ≤ k → k < length xs → test (slice_index xs k) ≡ false
IsFirstFrom test xs from (Some i) = (from ≤ i) × (i < length xs) × (test (slice_index xs i) ≡ true)
    × ((k : ℕ) → from ≤ k → k < i → test (slice_index xs k) ≡ false)
