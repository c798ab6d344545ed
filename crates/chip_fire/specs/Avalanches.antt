-- Avalanches: what drops of chips set off, each a vertex and a count, and what they add up to.
use Rattle.std.specs.Prelude.{◌≡◌, ℕ, ◌+◌, ◌==◌, if◌then◌else◌, List, [], ◌∷◌, length, map, min, sum_by}
use Rattle.std.specs.Prelude.{slice_index, Option, MatchOption}
use Rattle.chip_graph.specs.Sums.{sum_below}
use Rattle.chip_graph.specs.Multigraph.{Multigraph, IsGraph}
use Rattle.chip_graph.specs.More.{brought_to}
use Rattle.chip_sequence.specs.Sequence.{position_after, IsFiringSequence, counts, HasEnded}
use Rattle.chip_sequence.specs.Stages.{LeadsTo}
use Rattle.chip_fire.specs.declared.avalanche.Avalanche.{Avalanche}
use Rattle.chip_fire.specs.declared.pile.Pile.{Pile}
use Rattle.chip_sequence.specs.Firing.{IsStable}

-- the position x with `count` more chips on v
abbrev pub dropped : (ℕ → ℕ) → ℕ → ℕ → ℕ → ℕ
dropped x v count u = x u + (if v == u then count else 0)

-- how many different vertices fire in a list
abbrev pub extent_of : Multigraph → List ℕ → ℕ
extent_of G vs = sum_below G.vertices (λ v. min (counts vs v) 1)

-- the avalanche of a list that fires from x: how many firings it has, of how many vertices, and how many chips it
-- brings to the sink
pub record Tells (G : Multigraph) (x : ℕ → ℕ) (a : Avalanche) (vs : List ℕ) : Type 0 where
  pub size : a.size ≡ length vs
  pub extent : a.extent ≡ extent_of G vs
  pub lost : x G.sink + a.lost ≡ position_after G x vs G.sink

-- some firing sequence from x ends, and each that does has these numbers and leaves y
pub record IsAvalanche (G : Multigraph) (x : ℕ → ℕ) (a : Avalanche) (y : ℕ → ℕ) : Type 0 where
  pub ends : (vs : List ℕ) × IsFiringSequence G x vs × HasEnded G x vs
  pub tells : (vs : List ℕ) → IsFiringSequence G x vs → HasEnded G x vs → Tells G x a vs
  pub leaves : (vs : List ℕ) → IsFiringSequence G x vs → HasEnded G x vs → (v : ℕ) → y v ≡ position_after G x vs v

-- the play from x has left the pile p with no vertex legal, and this is its avalanche; or the limit has stopped it
abbrev pub TellsAvalanche : Multigraph → (ℕ → ℕ) → Pile → Option Avalanche → Type 0
TellsAvalanche G x p told = MatchOption told
    (IsStable G (slice_index p.chips.items) → ⊥)
    (λ a. IsStable G (slice_index p.chips.items) × IsAvalanche G x a (slice_index p.chips.items))

-- drops with their avalanches: the first on x, each other one on what the one before it left; and the last leaves y
abbrev pub AreAvalanches : Multigraph → (ℕ → ℕ) → List ((ℕ × ℕ) × Avalanche) → (ℕ → ℕ) → Type 0
AreAvalanches G x [] y = (v : ℕ) → y v ≡ x v
AreAvalanches G x ((d, a) ∷ more) y =
    (z : ℕ → ℕ) × IsAvalanche G (dropped x d.0 d.1) a z × AreAvalanches G z more y

-- a play with counts f leads from x to a y with no vertex legal, and drops with their avalanches from there to z. Then
-- each sequence that ends from x with all drops at once leaves z too, and fires as often as the play and all avalanches
abbrev pub DropsAddUp : Type 0
DropsAddUp =
    (G : Multigraph) → IsGraph G → (x f y : ℕ → ℕ) → LeadsTo G x f y → IsStable G y
    → (told : List ((ℕ × ℕ) × Avalanche)) (z : ℕ → ℕ) → AreAvalanches G y told z
    → (x' : ℕ → ℕ) → ((v : ℕ) → x' v ≡ x v + brought_to (map (λ t. t.0) told) v)
    → (vs : List ℕ) → IsFiringSequence G x' vs → HasEnded G x' vs
    → (sum_below G.vertices f + sum_by (λ t. t.1.size) told ≡ length vs) × ((v : ℕ) → z v ≡ position_after G x' vs v)
