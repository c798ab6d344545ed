-- The core theorem, whole.
use Rattle.std.specs.Prelude.{◌≡◌, ◌≢◌, ℕ, ◌+◌, ◌*◌, ◌<◌, true, List, [], ◌++◌, length, sum, Some, None}
use Rattle.chip_graph.specs.ChipGame.{IsGame}
use Rattle.chip_part.specs.Setting.{Setting}
use Rattle.chip_graph.specs.Sums.{filter_below}
use Rattle.chip_link.specs.Link.{sent_counts}
use Rattle.chip_link.specs.Laws.{IsPrefix}
use Rattle.chip_sequence.specs.Firing.{legal_vertices}
use Rattle.chip_sequence.specs.Sequence.{position_after, IsFiringSequence, HasEnded, IsWholePlay}
use Rattle.chip_sequence.specs.Counted.{position_by_counts, IsBelowZero}
use Rattle.chip_part.specs.declared.cause.Cause.TheVariants.{SealedEdge}
use Rattle.chip_part.specs.Edges.{mult_of}
use Rattle.chip_core.specs.Core.{Log, Event, Reply, part_in, out_in, into_in, fired_by, is_by_limit, replies_to}
use Rattle.chip_core.specs.Core.{log_after, IsLegalLog, IsClosed, tail_of, all_edges, graph_edges, stopper}
use Rattle.chip_core.specs.Messages.{sent_in, delivered_in, sent_after_seal, was_sealed, in_flight, AreInOrderFrom}
use Rattle.chip_core.specs.Positions.{chips_given, held, chips_at, firings, FiresToEnd, AgreesWith}
use Rattle.chip_core.specs.Detection.{IsDetectionOrder}

-- no vertex halted
abbrev pub NoneHalted : Setting → Log → Type 0
NoneHalted g log = (v : ℕ) → v < g.game.graph.vertices → (part_in g log v).halt ≡ None

-- no vertex halted by a seal: each one that halted was stopped by its limit
abbrev pub NoneHaltedBySeal : Setting → Log → Type 0
NoneHaltedBySeal g log = (v : ℕ) → v < g.game.graph.vertices → (part_in g log v).halt ≢ Some SealedEdge

-- For every list of actor steps, each edge has delivered a prefix of what was sent on it, each message once and in
-- order, and nothing is sent after its seal. If the root closes, every edge has delivered everything and, unless a
-- vertex halted, chips and firing counts are those of every legal firing on one thread that ends with no legal vertex.
--
-- The steps `xs` are requested after the log `before`, get the replies `replies`, and lead to the log `after`. A run
-- has to deliver on an edge what was in flight before it, and then what it sent. A legal firing starts with the chips
-- given to each vertex so far, at the opening and by feeding
pub record HeadlineOf (g : Setting) (before : Log) (xs : List Event) (replies : List Reply) (after : Log) : Type 0 where
  -- each edge has delivered a prefix of what was sent on it, and what is left of that is in flight
  pub prefix : (e : ℕ) → IsPrefix (delivered_in e xs replies) (in_flight g before e ++ sent_in e xs replies)
  pub left : (e : ℕ) → delivered_in e xs replies ++ in_flight g after e ≡ in_flight g before e ++ sent_in e xs replies
  -- each message once and in order: the places are consecutive from the number of messages delivered before
  pub in_order : (e : ℕ) → AreInOrderFrom e (length (into_in g before e).got)
      (in_flight g before e ++ sent_in e xs replies)
  -- nothing is sent after its seal, and nothing at all on an edge that was sealed before
  pub sealed : (e : ℕ) → sent_after_seal e xs replies ≡ []
  pub sealed_before : (e : ℕ) → was_sealed before e ≡ true → sent_in e xs replies ≡ []
  -- the firings made, one at a time, are a firing sequence within the limit, and lead to the full configuration
  pub position : FiresToEnd g after (firings after)
  -- by the counts alone no vertex is below 0, and it is the configuration by the counts
  pub none_below : (v : ℕ) → IsBelowZero g.game.graph (chips_given g after) (fired_by g after) v → ⊥
  pub by_counts : (v : ℕ) → position_after g.game.graph (chips_given g after) (firings after) v
      ≡ position_by_counts g.game.graph (chips_given g after) (fired_by g after) v
  -- what was sent on an edge of the graph and what is held on it are what the firings of its tail made
  pub made : (e : ℕ) → e < graph_edges g → sum (sent_counts (out_in g after e).link) + held g after e
      ≡ mult_of g e * fired_by g after (tail_of g e)
  -- there is a detection order
  pub order : (vs : List ℕ) × IsDetectionOrder g after vs
  -- if the root closes, every edge has delivered everything
  pub everything_delivered : IsClosed g after → (e : ℕ) → e < all_edges g
      → delivered_in e xs replies ≡ in_flight g before e ++ sent_in e xs replies
  -- and, unless a vertex halted, chips and firing counts are those of every firing sequence that ends with no legal
  -- vertex; the firings made are one
  pub one_end : IsClosed g after → NoneHalted g after → (vs : List ℕ)
      → IsFiringSequence g.game.graph (chips_given g after) vs → HasEnded g.game.graph (chips_given g after) vs
      → AgreesWith g after vs
  pub ended : IsClosed g after → NoneHalted g after → HasEnded g.game.graph (chips_given g after) (firings after)
  -- if only the limit halted vertices, they are those of every sequence that ends within the limit, and the vertices
  -- that it halted are the legal ones
  pub one_end_within : IsClosed g after → NoneHaltedBySeal g after → (vs : List ℕ)
      → IsWholePlay g.game.graph (chips_given g after) g.game.limit vs → AgreesWith g after vs
  pub ended_within : IsClosed g after → NoneHaltedBySeal g after
      → IsWholePlay g.game.graph (chips_given g after) g.game.limit (firings after)
  pub over : IsClosed g after → NoneHaltedBySeal g after
      → filter_below (λ v. is_by_limit (part_in g after v).halt) g.game.graph.vertices ≡ legal_vertices g.game.graph (chips_at g after)
  -- and whatever is requested later, the root stays closed and no part but the stopper's changes: no list, no chip, no
  -- count, no halt
  pub still : IsClosed g after → (ys : List Event) → IsClosed g (log_after g after ys)
      × ((p : ℕ) → p ≢ stopper g → part_in g (log_after g after ys) p ≡ part_in g after p)

-- the same of the steps `xs` after a log, by the replies that they get and the log after them
abbrev pub Headline : Setting → Log → List Event → Type 0
Headline g log xs = HeadlineOf g log xs (replies_to g log xs) (log_after g log xs)

-- it holds of every game within the limits, every ring with a cell, every legal log before, empty or not, and every
-- list of steps, refused or not
abbrev pub CoreTheorem : Type 0
CoreTheorem = (g : Setting) → IsGame g.game → 0 < g.ring → (log : Log) → IsLegalLog g log → (xs : List Event)
    → Headline g log xs
