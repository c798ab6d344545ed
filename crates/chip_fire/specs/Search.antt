-- How long a search for counts may be.
use Rattle.std.specs.Prelude.{ℕ, ◌+◌, ◌*◌, ◌/◌, ◌≤◌, Bool, false, if◌then◌else◌, List, [], length}
use Rattle.chip_graph.specs.ChipGame.{ChipGame}
use Rattle.chip_fire.specs.Rounds.{firings_left}

-- how many vertices and edges a game has
abbrev pub places : ChipGame → ℕ
places g = g.graph.vertices + length g.graph.edges

-- rounds that led from the counts fired to fired' added so few visits to `before`: at most one at each vertex and edge
-- for each firing, and one more at each if they do not go on, but have reached the end
pub record FewVisits (g : ChipGame) (fired fired' : List ℕ) (before after : ℕ) (goes_on : Bool) : Type 0 where
  pub more : before ≤ after
  pub few : after + places g * firings_left g.graph g.limit fired'
      ≤ before + places g * firings_left g.graph g.limit fired + (if goes_on then 0 else places g)

-- a search for counts beside a play that made `alone` visits before it and `beside` visits since, which led to the
-- counts fired. The search makes 16 at each vertex and edge to begin with. It is ahead by at most 16,384 at each and two
-- for each that the play made alone; then both make as many. Neither passes that share by more than a turn: of the play
-- 5 visits at each vertex and edge and a quarter of those that it has made
pub record IsShort (g : ChipGame) (fired : List ℕ) (alone beside searched : ℕ) : Type 0 where
  pub played_few : FewVisits g [] fired 0 (alone + beside) false
  pub begun : 16 * places g ≤ searched
  pub search_share : searched ≤ 16384 * places g + 2 * alone + beside
  pub play_share : beside ≤ searched + 5 * places g + (alone + beside) / 4
