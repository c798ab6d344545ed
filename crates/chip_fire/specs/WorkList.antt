-- A play by a work list.
use Rattle.std.specs.Prelude.{◌≡◌, ◌≢◌, ℕ, ◌+◌, ◌*◌, ◌/◌, ◌<◌, ◌≤◌, ◌⊎◌, ◌==◌, if◌then◌else◌, List, length, take, slice_index}
use Rattle.std.specs.Prelude.{All, Contains, sum, sum_by, ◌^◌}
use Rattle.chip_graph.specs.Limits.{max_total}
use Rattle.chip_graph.specs.Multigraph.{Multigraph, degree, edges_out}
use Rattle.chip_graph.specs.ChipGame.{ChipGame}
use Rattle.chip_graph.specs.declared.edge.Link.{Link}
use Rattle.chip_sequence.specs.Firing.{IsLegal, legal_vertices}
use Rattle.chip_sequence.specs.Sequence.{counts}
use Rattle.chip_fire.specs.Search.{places}
use Rattle.chip_fire.specs.declared.work_list.Listing.{Listing}
use Rattle.chip_fire.specs.declared.work_list.Listing.TheVariants.{GoesOn, Ends, GivesUp}

-- the list has each legal vertex once, and no other
pub record AreTheLegal (G : Multigraph) (chips work : List ℕ) : Type 0 where
  pub each : (v : ℕ) → counts work v ≡ counts (legal_vertices G (slice_index chips)) v

-- along the first i of these edges k firings have brought the chips from `taken` to what they are
pub record IsSent (G : Multigraph) (k : ℕ) (links : List Link) (taken : List ℕ) (i : ℕ) (chips : List ℕ) : Type 0
  where
    pub heads : All (λ e. e.head < G.vertices) links
    pub few : sum taken + k * sum_by (λ e. e.mult) links ≤ max_total
    pub chips_each : length chips ≡ G.vertices
    pub each : (u : ℕ) → slice_index chips u
        ≡ slice_index taken u + k * sum_by (λ e. if e.head == u then e.mult else 0) (take i links)
    pub all : sum chips ≡ sum taken + k * sum_by (λ e. e.mult) (take i links)

-- how many vertices are legal
abbrev pub legal_in_all : Multigraph → List ℕ → ℕ
legal_in_all G chips = length (legal_vertices G (slice_index chips))

-- a legal vertex that would fire more often than the limit allows if it fired as often as its chips allow, or that has
-- so many edges out that the legal vertices and their heads may not fit a list of `room`
abbrev pub IsStuck : Multigraph → ℕ → (chips fired : List ℕ) → ℕ → Type 0
IsStuck G limit chips fired room = (v : ℕ) × IsLegal G (slice_index chips) v
    × ((limit < slice_index fired v + slice_index chips v / degree G v)
    ⊎ (room < legal_in_all G chips + length (edges_out G v)))

-- where a work list with room for `few` is that was given `most` visits: if it goes on, it has made them all but for
-- less than one at each vertex and edge; it has ended if no vertex is legal; and it gives up if too many are, or one is
-- stuck
abbrev pub WorksOff : ChipGame → (few most : ℕ) → (chips fired : List ℕ) → (before after : ℕ) → Listing → Type 0
WorksOff g few most chips fired before after GoesOn = before + most < 2 ^ 64 → before + most < after + places g
WorksOff g few most chips fired before after Ends = legal_in_all g.graph chips ≡ 0
WorksOff g few most chips fired before after GivesUp =
    (few < legal_in_all g.graph chips) ⊎ IsStuck g.graph g.limit chips fired few

-- the list has vertices alone, and each of the n that fired between these counts
pub record HasSupport (n : ℕ) (fired fired' vs : List ℕ) : Type 0 where
  pub vertices : All (λ v. v < n) vs
  pub each : (v : ℕ) → v < n → slice_index fired v ≢ slice_index fired' v → Contains vs v
