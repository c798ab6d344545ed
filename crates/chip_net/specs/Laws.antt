-- The rule of the table without a log: the world of a net is reached, in the sense of the core's `Reached`.
use Rattle.std.specs.Prelude.{◌≡◌, ℕ, ◌+◌, ◌%◌, ◌<◌, ◌≤◌, List, length, slice_index, Some, None}
use lib.ListN.{get_elem?}
use Rattle.atomic_table.specs.Table.{State}
use Rattle.chip_link.specs.Link.{word_of, claims_of, IsSealedAt}
use Rattle.chip_link.specs.Laws.{IsPrefix}
use Rattle.chip_part.specs.Setting.{Setting, IsSetting}
use Rattle.chip_core.specs.Core.{Step, Part, graph_edges, all_edges, out_by, into_by, stop_by, word_of_part}
use Rattle.chip_core.specs.Words.{of_edge, of_acks, of_cell, of_vertex}
use Rattle.chip_core.specs.Reached.{parts_by, IsReached}
use Rattle.chip_net.specs.Layout.{value_in}
use Rattle.chip_net.specs.Views.{View, find_in}
use Rattle.chip_core.specs.Core.{Event, IsClosed}
use Rattle.chip_core.specs.Closing.{HasEnd, Advances}
use Rattle.chip_core.specs.Instance.{network_of, Shows}
use Rattle.chip_diffusing.specs.Computation as diffusing
use Rattle.chip_net.specs.Rule.{Kept}

-- the words of an edge follow from the parts, and what was sent on it arrives in order
pub record EdgeShows (g : Setting) (words : List ℕ) (parts : ℕ → Part) (e : ℕ) : Type 0 where
  -- the edge word has the number of claims of its tail, and the seal
  pub word : value_in g words (of_edge e) ≡ word_of (out_by g parts e).link (stop_by g parts e)
  -- from the next place to take on, for as many places as the ring has cells: a cell holds the count of the message put
  -- there, else 0
  pub cells : (p : ℕ) → length (into_by g parts e).got ≤ p → p < length (into_by g parts e).got + g.ring
      → value_in g words (of_cell e (p % g.ring)) ≡ slice_index (out_by g parts e).link.put p
  -- a root edge is never sealed
  pub unsealed : graph_edges g ≤ e → stop_by g parts e ≡ None
  -- the word of acknowledgements is the number that its head acknowledged, and its tail settled at most that
  pub acks : value_in g words (of_acks e) ≡ (into_by g parts e).acked
  pub settled : (out_by g parts e).settled ≤ (into_by g parts e).acked
  -- what its head has got is a prefix of what its tail put, each message once and in order: both lists go by places
  pub prefix : IsPrefix (into_by g parts e).got (out_by g parts e).link.put
  -- since its first seal nothing was claimed, so nothing is sent after it
  pub sealed : IsSealedAt (claims_of (out_by g parts e).link) (stop_by g parts e)

-- words and views are a reached world: the steps of each part, which exactly one view has, and the words that follow
-- from the parts
pub record IsReachedTable (g : Setting) (s : State (Unit {0}) View) : Type 0 where
  pub setting : IsSetting g
  pub did : ℕ → List Step
  pub reached : IsReached g did
  pub owner : ℕ → ℕ
  pub only_there : (p j : ℕ) (steps : List Step) → find_in p (get_elem? s.views j) ≡ Some steps
      → (owner p ≡ j) × (steps ≡ did p)
  pub there : (p : ℕ) → p < g.game.graph.vertices + 2 → find_in p (get_elem? s.views (owner p)) ≡ Some (did p)
  pub edges : (e : ℕ) → e < all_edges g → EdgeShows g s.words (parts_by g did) e
  -- the fired word of a vertex has its firings, its halt and the cause
  pub fired : (v : ℕ) → v < g.game.graph.vertices → value_in g s.words (of_vertex v) ≡ word_of_part (parts_by g did v)

-- this holds at every moment of a net
abbrev pub EveryMomentIsReached : Type 0
EveryMomentIsReached = (g : Setting) (s : State (Unit {0}) View) → Kept g s → IsReachedTable g s

-- in every state that the rule of the table allows, from the end of feeding until the root is closed, some part has an
-- event that advances
abbrev pub AlwaysDue : Type 0
AlwaysDue = (g : Setting) (s : State (Unit {0}) View) → (kept : Kept g s) → HasEnd g kept.log
    → (IsClosed g kept.log → ⊥) → (x : Event) × Advances g kept.log x

-- in every such state some legal log of a diffusing computation has the steps of the parts
abbrev pub EveryMomentDiffuses : Type 0
EveryMomentDiffuses = (g : Setting) (s : State (Unit {0}) View) → Kept g s → (table : IsReachedTable g s)
    × (events : diffusing.Log) × (w : diffusing.World) × diffusing.IsLegalLog (network_of g) events w
    × Shows g (parts_by g table.did) w
