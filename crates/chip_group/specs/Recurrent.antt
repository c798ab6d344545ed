-- Recurrent configurations (Dhar, Self-organized critical state of sandpile automaton models, 1990; on directed graphs:
-- Speer, Asymmetric abelian sandpile models, 1993). A configuration is a function from vertices to chips; its chips on
-- the sink do not count.
use Rattle.std.specs.Prelude.{◌≡◌, ◌≢◌, ℕ, ◌+◌, ◌-◌, ◌*◌, ◌<◌, ◌≤◌, List}
use Rattle.chip_graph.specs.Multigraph.{Multigraph, degree}
use Rattle.chip_sequence.specs.Firing.{IsStable}
use Rattle.chip_sequence.specs.Sequence.{position_after, IsFiringSequence}
use Rattle.chip_sequence.specs.Counted.{inflow}

-- P holds of each vertex but the sink
abbrev pub EachNonSink : Multigraph → (ℕ → Type 0) → Type 0
EachNonSink G P = (v : ℕ) → v < G.vertices → v ≢ G.sink → P v

-- the same chips on each vertex but the sink
abbrev pub AgreeOffSink : Multigraph → (ℕ → ℕ) → (ℕ → ℕ) → Type 0
AgreeOffSink G x y = EachNonSink G (λ v. x v ≡ y v)

-- some firing sequence leads from x to y
pub record FiresTo (G : Multigraph) (x y : ℕ → ℕ) : Type 0 where
  pub firings : List ℕ
  pub sequence : IsFiringSequence G x firings
  pub ends_at : AgreeOffSink G (position_after G x firings) y

-- c is the stabilization of x
pub record StabilizesTo (G : Multigraph) (x c : ℕ → ℕ) : Type 0 where
  pub fires_to : FiresTo G x c
  pub stable : IsStable G c

-- c is stable, and from each configuration chips can be added so that firings lead to c
pub record IsRecurrent (G : Multigraph) (c : ℕ → ℕ) : Type 0 where
  pub stable : IsStable G c
  pub reached : (x : ℕ → ℕ) → (y : ℕ → ℕ) × FiresTo G (λ v. x v + y v) c

-- the greatest number of chips with which v is not legal
abbrev pub most_stable : Multigraph → ℕ → ℕ
most_stable G v = degree G v - 1

-- c is the stabilization of the greatest stable configuration with some chips added
abbrev pub IsReachedFromMost : Multigraph → (ℕ → ℕ) → Type 0
IsReachedFromMost G c = (y : ℕ → ℕ) × StabilizesTo G (λ v. most_stable G v + y v) c

-- if each v fires s v times, each vertex but the sink loses b v chips on balance
abbrev pub TakesAway : Multigraph → (ℕ → ℕ) → (ℕ → ℕ) → Type 0
TakesAway G s b = EachNonSink G (λ v. b v + inflow G s v ≡ degree G v * s v)

-- a burning script s and its chips b: each vertex but the sink fires, and none gains chips on balance
pub record IsBurningScript (G : Multigraph) (s b : ℕ → ℕ) : Type 0 where
  pub each_fires : EachNonSink G (λ v. 0 < s v)
  pub takes : TakesAway G s b

-- x and y are in one class modulo the Laplacian: x fired by f and y fired by g are equal, as whole numbers
abbrev pub AreEquivalent : Multigraph → (ℕ → ℕ) → (ℕ → ℕ) → Type 0
AreEquivalent G x y = (f : ℕ → ℕ) × (g : ℕ → ℕ)
    × EachNonSink G (λ v. x v + inflow G f v + degree G v * g v ≡ y v + inflow G g v + degree G v * f v)

-- if vertices fire together, each any number of times, and none is negative after it, no vertex fires (z-superstable;
-- on undirected graphs this is superstable in every sense)
abbrev pub IsSuperstable : Multigraph → (ℕ → ℕ) → Type 0
IsSuperstable G c = (f : ℕ → ℕ) → EachNonSink G (λ v. degree G v * f v ≤ c v + inflow G f v)
    → EachNonSink G (λ v. f v ≡ 0)

-- e is the stabilization of the sum of c and d
abbrev pub IsStableSum : Multigraph → (c d e : ℕ → ℕ) → Type 0
IsStableSum G c d e = StabilizesTo G (λ v. c v + d v) e

-- e is recurrent, and each recurrent configuration is its stable sum with e
pub record IsIdentity (G : Multigraph) (e : ℕ → ℕ) : Type 0 where
  pub recurrent : IsRecurrent G e
  pub neutral : (c : ℕ → ℕ) → IsRecurrent G c → IsStableSum G c e c

-- twice the greatest stable configuration
abbrev pub twice_most : Multigraph → ℕ → ℕ
twice_most G v = most_stable G v + most_stable G v

-- the recurrent configurations with the stable sum are a commutative group, up to chips on the sink
pub record IsSandpileGroup (G : Multigraph) : Type 0 where
  pub sums : (c d : ℕ → ℕ) → IsRecurrent G c → IsRecurrent G d → (e : ℕ → ℕ) × IsRecurrent G e × IsStableSum G c d e
  pub one_sum : (c c' d d' e e' : ℕ → ℕ) → AgreeOffSink G c c' → AgreeOffSink G d d' → IsStableSum G c d e
      → IsStableSum G c' d' e' → AgreeOffSink G e e'
  pub commutative : (c d e : ℕ → ℕ) → IsStableSum G c d e → IsStableSum G d c e
  pub associative : (c d e c_d d_e sum : ℕ → ℕ) → IsStableSum G c d c_d → IsStableSum G d e d_e → IsStableSum G c_d e sum
      → IsStableSum G c d_e sum
  pub identity : (e : ℕ → ℕ) × IsIdentity G e
  pub inverses : (c : ℕ → ℕ) → IsRecurrent G c
      → (d : ℕ → ℕ) × IsRecurrent G d × ((e : ℕ → ℕ) → IsStableSum G c d e → IsIdentity G e)
