-- The laws of chip-firing, as the functions of `src/laws.rt` state them.
use Rattle.std.specs.Prelude.{◌≡◌, ◌≢◌, ◌↔◌, ℕ, ◌+◌, ◌*◌, ◌<◌, ◌≤◌, List, ◌++◌, replicate, Contains}
use Rattle.chip_graph.specs.Sums.{sum_below}
use Rattle.chip_graph.specs.Multigraph.{Multigraph, degree, IsDistance, IsGraph}
use Rattle.chip_sequence.specs.Firing.{IsLegal, legal_vertices, fired_once}
use Rattle.chip_sequence.specs.Sequence.{position_after, IsFiringSequence, counts, HasEnded, IsWithin, HasEndedWithin}
use Rattle.chip_sequence.specs.Sequence.{IsWholePlay}
use Rattle.chip_sequence.specs.Counted.{position_by_counts, IsBelowZero}
use Rattle.chip_sequence.specs.Certificate.{AreForced, IsCertified, HasFewIn, AreBurnt, IsScript, IsOnTheWay}
use Rattle.chip_sequence.specs.Bound.{greatest_degree, IsGreatestDistance, firing_bound}

-- the listed vertices are the legal ones
abbrev pub LegalVertices : Type 0
LegalVertices = (G : Multigraph) (x : ℕ → ℕ) (v : ℕ) → Contains (legal_vertices G x) v ↔ IsLegal G x v

-- the configuration after a firing sequence depends on its counts alone: no vertex is below 0 by them, and the chips
-- are those by counts
abbrev pub PositionByCounts : Type 0
PositionByCounts = (G : Multigraph) (x : ℕ → ℕ) (vs : List ℕ) → IsFiringSequence G x vs → (u : ℕ)
    → (IsBelowZero G x (counts vs) u → ⊥) × (position_after G x vs u ≡ position_by_counts G x (counts vs) u)

-- a vertex that has the chips for k firings may fire k times in a row
abbrev pub Batch : Type 0
Batch = (G : Multigraph) (x : ℕ → ℕ) (v k : ℕ) → v < G.vertices → v ≢ G.sink → k * degree G v ≤ x v
    → IsFiringSequence G x (replicate k v)

-- two legal vertices of a configuration may fire in either order, to the same configuration
abbrev pub Diamond : Type 0
Diamond = (G : Multigraph) (x : ℕ → ℕ) (u v : ℕ) → u ≢ v → IsLegal G x u → IsLegal G x v
    → IsLegal G (fired_once G u x) v × IsLegal G (fired_once G v x) u
    × ((w : ℕ) → fired_once G v (fired_once G u x) w ≡ fired_once G u (fired_once G v x) w)

-- no firing sequence within the limit fires a vertex more often than one that has ended within it
abbrev pub LeastAction : Type 0
LeastAction = (G : Multigraph) (x : ℕ → ℕ) (limit : ℕ) (ws : List ℕ) → IsFiringSequence G x ws
    → HasEndedWithin G x limit ws → (vs : List ℕ) → IsFiringSequence G x vs → IsWithin limit vs → (u : ℕ)
    → counts vs u ≤ counts ws u

-- two firing sequences within the limit that have ended within it have equal counts and end at the same configuration
abbrev pub OneEnd : Type 0
OneEnd = (G : Multigraph) (x : ℕ → ℕ) (limit : ℕ) (vs ws : List ℕ) → IsWholePlay G x limit vs → IsWholePlay G x limit ws
    → ((u : ℕ) → counts vs u ≡ counts ws u) × ((u : ℕ) → position_after G x vs u ≡ position_after G x ws u)

-- every firing sequence within the limit can be continued to one that has ended within it
abbrev pub Continuation : Type 0
Continuation = (G : Multigraph) (x : ℕ → ℕ) (limit : ℕ) (vs : List ℕ) → IsFiringSequence G x vs → IsWithin limit vs
    → (more : List ℕ) × IsWholePlay G x limit (vs ++ more)

-- no chips are created or destroyed
abbrev pub ChipsAreKept : Type 0
ChipsAreKept = (G : Multigraph) (x : ℕ → ℕ) → IsGraph G → (vs : List ℕ) → IsFiringSequence G x vs
    → sum_below G.vertices (position_after G x vs) ≡ sum_below G.vertices x

-- no firing sequence, limited or not, fires a vertex more often than the bound at its distance from the sink
abbrev pub FiringBound : Type 0
FiringBound = (G : Multigraph) (x : ℕ → ℕ) → IsGraph G → (v distance : ℕ) → IsDistance G v distance → (vs : List ℕ)
    → IsFiringSequence G x vs → counts vs v ≤ firing_bound (sum_below G.vertices x) (greatest_degree G) distance

-- if the limit is at least the bound at the greatest distance, nothing is still legal at the end
abbrev pub Enough : Type 0
Enough = (G : Multigraph) (x : ℕ → ℕ) → IsGraph G → (distance limit : ℕ) → IsGreatestDistance G distance
    → firing_bound (sum_below G.vertices x) (greatest_degree G) distance ≤ limit → (vs : List ℕ)
    → IsWholePlay G x limit vs → HasEnded G x vs

-- if no in-degree is above the degree, no firing sequence fires a vertex more often than the number of chips times its
-- distance from the sink
abbrev pub FewFirings : Type 0
FewFirings = (G : Multigraph) (x : ℕ → ℕ) → IsGraph G → HasFewIn G → (v distance : ℕ) → IsDistance G v distance
    → (vs : List ℕ) → IsFiringSequence G x vs → counts vs v ≤ sum_below G.vertices x * distance

-- so a limit of all chips times the greatest distance stops no vertex
abbrev pub EnoughByDistance : Type 0
EnoughByDistance = (G : Multigraph) (x : ℕ → ℕ) → IsGraph G → HasFewIn G → (distance limit : ℕ)
    → IsGreatestDistance G distance → sum_below G.vertices x * distance ≤ limit → (vs : List ℕ)
    → IsWholePlay G x limit vs → HasEnded G x vs

-- without a limit: every firing sequence can be continued to one that has ended, and two that have ended have equal
-- counts and end at the same configuration
abbrev pub AbelianProperty : Type 0
AbelianProperty = (G : Multigraph) (x : ℕ → ℕ) → IsGraph G →
    ((vs : List ℕ) → IsFiringSequence G x vs → (more : List ℕ) × IsFiringSequence G x (vs ++ more)
    × HasEnded G x (vs ++ more))
    × ((vs ws : List ℕ) → IsFiringSequence G x vs → HasEnded G x vs → IsFiringSequence G x ws → HasEnded G x ws
    → ((u : ℕ) → counts vs u ≡ counts ws u) × ((u : ℕ) → position_after G x vs u ≡ position_after G x ws u))

-- adding chips to a configuration keeps a sequence legal
abbrev pub MoreChips : Type 0
MoreChips = (G : Multigraph) (x y : ℕ → ℕ) → ((u : ℕ) → x u ≤ y u) → (vs : List ℕ) → IsFiringSequence G x vs
    → IsFiringSequence G y vs

-- on top of forced counts, certified counts are forced
abbrev pub CertifiedCounts : Type 0
CertifiedCounts = (G : Multigraph) (x : ℕ → ℕ) (limit : ℕ) → IsGraph G → (f g : ℕ → ℕ) → AreForced G x limit f
    → IsCertified G x limit f g → AreForced G x limit g

-- on top of forced counts, counts that burn in the order of some ranks are forced
abbrev pub BurntCounts : Type 0
BurntCounts = (G : Multigraph) (x : ℕ → ℕ) (limit : ℕ) → IsGraph G → (f g rank : ℕ → ℕ) → AreForced G x limit f
    → AreBurnt G x limit f g rank → AreForced G x limit g

-- if no in-degree is above the degree, the counts of every firing sequence within the limit burn in the order of
-- some ranks
abbrev pub FiredBurn : Type 0
FiredBurn = (G : Multigraph) (x : ℕ → ℕ) (limit : ℕ) → HasFewIn G → (vs : List ℕ) → IsFiringSequence G x vs
    → IsWithin limit vs → (rank : ℕ → ℕ) × AreBurnt G x limit (λ v. 0) (counts vs) rank

-- on top of forced counts, counts with a script are forced
abbrev pub ScriptCounts : Type 0
ScriptCounts = (G : Multigraph) (x : ℕ → ℕ) (limit : ℕ) (f g q : ℕ → ℕ) (bs : List ℕ) → AreForced G x limit f
    → IsScript G x limit f g q bs → AreForced G x limit g

-- counts on the way stay so by any firing sequence from there within the limit, whether or not one leads there from the
-- start
abbrev pub PlayingOn : Type 0
PlayingOn = (G : Multigraph) (x : ℕ → ℕ) (limit : ℕ) (y f : ℕ → ℕ) → IsOnTheWay G x limit y f → (vs : List ℕ)
    → IsFiringSequence G y vs → ((u : ℕ) → f u + counts vs u ≤ limit)
    → IsOnTheWay G x limit (position_after G y vs) (λ u. f u + counts vs u)

-- counts on the way that no firing can extend are those of every whole play, and so is their configuration
abbrev pub EndOfTheWay : Type 0
EndOfTheWay = (G : Multigraph) (x : ℕ → ℕ) (limit : ℕ) (y f : ℕ → ℕ) → IsOnTheWay G x limit y f
    → ((v : ℕ) → IsLegal G y v → f v ≡ limit) → (vs : List ℕ) → IsWholePlay G x limit vs → ((u : ℕ) → f u ≡ counts vs u)
    × ((u : ℕ) → y u ≡ position_after G x vs u)
