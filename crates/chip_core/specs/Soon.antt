-- Soon after the end: if only acknowledgements are left, few more rounds close the root.
use Rattle.std.specs.Prelude.{◌≡◌, ℕ, suc, ◌<◌, ◌≤◌, ◌+◌, ◌-◌, true, List, [], ◌++◌, length, Contains, Some}
use Rattle.chip_graph.specs.Sums.{sum_below}
use Rattle.chip_link.specs.Link.{claims_of}
use Rattle.chip_part.specs.Setting.{Setting}
use Rattle.chip_part.specs.Part.{is_passive}
use Rattle.chip_core.specs.Core.{Log, Step, Settle, part_in, out_in, into_in, IsLegalLog, IsClosed, tail_of, all_edges, graph_edges}
use Rattle.chip_core.specs.Messages.{in_flight}
use Rattle.chip_core.specs.Detection.{IsDetectionOrder}
use Rattle.chip_core.specs.Laws.{ForEveryLog}
use Rattle.chip_core.specs.Closing.{HasEnd, HasTurn, HasRounds}
use Rattle.chip_core.specs.Wasting.{AllAdvance}

-- every vertex is passive, nothing is claimed and not taken, and the end is noted
pub record HasTerminated (g : Setting) (log : Log) : Type 0 where
  pub passive : (v : ℕ) → v < g.game.graph.vertices → is_passive g v (part_in g log v) ≡ true
  pub delivered : (e : ℕ) → e < all_edges g → in_flight g log e ≡ []
  pub end : HasEnd g log

-- the tree of engaged vertices is at most `depth` deep: each of them has a level of at most `depth`, and the tail of
-- its parent edge has a lower one, be it a vertex or the root
pub record IsTreeAtMostDeep (g : Setting) (log : Log) (depth : ℕ) : Type 0 where
  pub level : ℕ → ℕ
  pub below : (v : ℕ) → v < g.game.graph.vertices → (e : ℕ) → (part_in g log v).parent ≡ Some e
      → (level (tail_of g e) < level v) × (level v ≤ depth)

-- a round in which the root settles its edges after all turns
pub record HasRoundInOrder (g : Setting) (before xs : Log) : Type 0 where
  pub front : Log
  pub back : Log
  pub all_are : xs ≡ back ++ front
  pub turns : (v : ℕ) → v < g.game.graph.vertices → HasTurn g v before front
  pub settles : (e : ℕ) → graph_edges g ≤ e → e < all_edges g → (x : Step) × Contains back x × (x.event ≡ Settle e)

-- one round more than the tree is deep closes the root, if in the last of them it settles after all turns
abbrev pub CoreDepthCloses : Type 0
CoreDepthCloses = ForEveryLog (λ g before. HasTerminated g before → (depth : ℕ) → IsTreeAtMostDeep g before depth
    → (rounds last : Log) → HasRounds g depth before rounds → HasRoundInOrder g (rounds ++ before) last
    → IsLegalLog g (last ++ (rounds ++ before)) → IsClosed g (last ++ (rounds ++ before)))

-- and two more, wherever in a round it settles
abbrev pub DepthClosesLater : Type 0
DepthClosesLater = ForEveryLog (λ g before. HasTerminated g before → (depth : ℕ) → IsTreeAtMostDeep g before depth
    → (rounds : Log) → HasRounds g (suc (suc depth)) before rounds → IsLegalLog g (rounds ++ before)
    → IsClosed g (rounds ++ before))

-- no tree is deeper than its number of vertices
abbrev pub CoreDepthIsCounted : Type 0
CoreDepthIsCounted = ForEveryLog (λ g log. (vs : List ℕ) → IsDetectionOrder g log vs → IsTreeAtMostDeep g log (length vs))

-- the acknowledgements that are not yet given, and those not yet settled
abbrev pub acks_left : Setting → Log → ℕ
acks_left g log = sum_below (all_edges g) (λ e. (claims_of (out_in g log e).link - (into_in g log e).acked)
    + (claims_of (out_in g log e).link - (out_in g log e).settled))

-- no more steps advance than these
abbrev pub CoreFewAreLeft : Type 0
CoreFewAreLeft = ForEveryLog (λ g log. HasTerminated g log → (xs : Log) → IsLegalLog g (xs ++ log) → AllAdvance g log xs
    → length xs ≤ acks_left g log)
