-- Counts that every sequence that has ended must reach, and how whole numbers certify some of them.
use Rattle.std.specs.Prelude.{◌≡◌, ◌≢◌, ℕ, ◌+◌, ◌*◌, ◌<◌, ◌≤◌, nat_le, if◌then◌else◌, List}
use Rattle.chip_graph.specs.Multigraph.{Multigraph, edge_at, sum_in, degree}
use Rattle.chip_sequence.specs.Sequence.{IsFiringSequence, counts, HasEndedWithin}
use Rattle.chip_sequence.specs.Counted.{inflow, position_by_counts, IsBelowZero}

-- every firing sequence from x that has ended within the limit fires each vertex v at least f v times
abbrev pub AreForced : Multigraph → (ℕ → ℕ) → ℕ → (ℕ → ℕ) → Type 0
AreForced G x limit f = (vs : List ℕ) → IsFiringSequence G x vs → HasEndedWithin G x limit vs → (u : ℕ)
    → f u ≤ counts vs u

-- v fires within the limit by the counts g, and once they are reached it lacks at most one chip to fire once more
pub record IsEarned (G : Multigraph) (x : ℕ → ℕ) (limit : ℕ) (g : ℕ → ℕ) (v : ℕ) : Type 0 where
  pub is_vertex : v < G.vertices
  pub not_sink : v ≢ G.sink
  pub within : g v ≤ limit
  pub one_missing : degree G v * (g v + 1) ≤ x v + inflow G g v + 1

-- each vertex that fires more often by g than by f has earned it
abbrev pub IsCertified : Multigraph → (ℕ → ℕ) → ℕ → (ℕ → ℕ) → (ℕ → ℕ) → Type 0
IsCertified G x limit f g = (v : ℕ) → f v < g v → IsEarned G x limit g v

-- what comes in along the edges into v if each tail fires once
abbrev pub in_degree : Multigraph → ℕ → ℕ
in_degree G v = sum_in G v (λ e. (edge_at G e).mult)

-- no in-degree but the sink's is above the degree, as on every undirected graph
abbrev pub HasFewIn : Multigraph → Type 0
HasFewIn G = (v : ℕ) → v < G.vertices → v ≢ G.sink → in_degree G v ≤ degree G v

-- the in-degree of v from only those tails whose rank is not below its own
abbrev pub late_in_degree : Multigraph → (ℕ → ℕ) → ℕ → ℕ
late_in_degree G rank v = sum_in G v (λ e. if nat_le (rank v) (rank (edge_at G e).tail) then (edge_at G e).mult else 0)

-- v fires within the limit by the counts g, its in-degree is at most its degree, and once the counts are reached it has
-- a chip for each that comes in from the tails whose rank is not below its own (the burning test of Dhar,
-- Self-organized critical state of sandpile automaton models, 1990)
pub record IsBurnt (G : Multigraph) (x : ℕ → ℕ) (limit : ℕ) (g rank : ℕ → ℕ) (v : ℕ) : Type 0 where
  pub is_vertex : v < G.vertices
  pub not_sink : v ≢ G.sink
  pub within : g v ≤ limit
  pub few_in : in_degree G v ≤ degree G v
  pub covered : degree G v * g v + late_in_degree G rank v ≤ x v + inflow G g v

-- each vertex that fires more often by g than by f burns by these ranks
abbrev pub AreBurnt : Multigraph → (ℕ → ℕ) → ℕ → (ℕ → ℕ) → (ℕ → ℕ) → (ℕ → ℕ) → Type 0
AreBurnt G x limit f g rank = (v : ℕ) → f v < g v → IsBurnt G x limit g rank v

-- bs is a firing sequence from q in which each vertex fires that fires more often by g than by f. If a vertex fires, g
-- is within the limit, by bs no more comes in than goes out, and q has no more chips than there would be if bs were
-- taken back once the counts g are reached
pub record IsScript (G : Multigraph) (x : ℕ → ℕ) (limit : ℕ) (f g q : ℕ → ℕ) (bs : List ℕ) : Type 0 where
  pub sequence : IsFiringSequence G q bs
  pub all_fire : (v : ℕ) → f v < g v → 0 < counts bs v
  pub within : (v : ℕ) → 0 < counts bs v → g v ≤ limit
  pub few_in : (v : ℕ) → 0 < counts bs v → inflow G (counts bs) v ≤ degree G v * counts bs v
  pub covered : (v : ℕ) → 0 < counts bs v
      → q v + inflow G (counts bs) v + degree G v * g v ≤ x v + inflow G g v + degree G v * counts bs v

-- the counts f are forced, no vertex is below 0 by them, and y is the configuration by them
pub record IsOnTheWay (G : Multigraph) (x : ℕ → ℕ) (limit : ℕ) (y f : ℕ → ℕ) : Type 0 where
  pub none_below : (u : ℕ) → IsBelowZero G x f u → ⊥
  pub position : (u : ℕ) → y u ≡ position_by_counts G x f u
  pub forced : AreForced G x limit f
