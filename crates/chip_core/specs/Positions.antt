-- Where all chips are at a moment of a run, and the firings that brought them there.
use Rattle.std.specs.Prelude.{◌≡◌, ℕ, ◌+◌, ◌-◌, ◌<◌, List, [], ◌∷◌, ◌++◌, replicate, map, sum}
use Rattle.std.specs.List.{range_with_len}
use Rattle.chip_graph.specs.ChipGame.{ChipGame}
use Rattle.chip_link.specs.Link.{sent_counts}
use Rattle.chip_part.specs.Setting.{Setting}
use Rattle.chip_sequence.specs.Sequence.{position_after, IsFiringSequence, counts, IsWithin}
use Rattle.chip_part.specs.Edges.{over_ins}
use Rattle.chip_core.specs.Core.{Log, Step, Event, Fire, Feed, part_in, out_in, fired_by, root_edge, graph_edges}
use Rattle.chip_core.specs.Messages.{counts_in_flight}

-- the chips given to v so far, at the opening and by feeding: all that was sent on its root edge
abbrev pub chips_given : Setting → Log → ℕ → ℕ
chips_given g log v = sum (sent_counts (out_in g log (root_edge g v)).link)

-- the game played so far: its start is what was given to each vertex
abbrev pub played_game : Setting → Log → ChipGame
played_game g log =
    record {
      graph = g.game.graph;
      start = map (chips_given g log) (range_with_len 0 g.game.graph.vertices);
      limit = g.game.limit;
    }

-- what is held on an edge: the chips of the last batch not yet sent
abbrev pub held : Setting → Log → ℕ → ℕ
held g log e = (out_in g log e).pending

-- the chips of v
abbrev pub chips_at : Setting → Log → ℕ → ℕ
chips_at g log v = (part_in g log v).chips

-- the full configuration of v: its chips, those in transit to it, and those held for it
abbrev pub full_position : Setting → Log → ℕ → ℕ
full_position g log v = (part_in g log v).chips
    + (over_ins g v (λ e. sum (counts_in_flight g log e)) + over_ins g v (held g log))

-- a batch of k is k firings of one vertex in a row
abbrev pub firings_of : Event → List ℕ
firings_of (Fire v k) = replicate k v
firings_of _ = []

-- the firings of a run, one at a time, in order
abbrev pub firings : Log → List ℕ
firings [] = []
firings (x ∷ log) = firings log ++ firings_of x.event

-- the events of a run, in order
abbrev pub events_in : Log → List Event
events_in [] = []
events_in (x ∷ log) = events_in log ++ x.event ∷ []

-- one thread that fires these vertices in turn from all that was given reaches the full configuration, within the limit
-- and with the counts of the log
pub record FiresToEnd (g : Setting) (log : Log) (vs : List ℕ) : Type 0 where
  pub sequence : IsFiringSequence g.game.graph (chips_given g log) vs
  pub within : IsWithin g.game.limit vs
  pub counted : (v : ℕ) → counts vs v ≡ fired_by g log v
  pub position : (v : ℕ) → v < g.game.graph.vertices
      → position_after g.game.graph (chips_given g log) vs v ≡ full_position g log v

-- chips and firing counts of the log are those of one thread that fires these vertices in turn from all that was given
pub record AgreesWith (g : Setting) (log : Log) (vs : List ℕ) : Type 0 where
  pub counted : (v : ℕ) → fired_by g log v ≡ counts vs v
  pub chips : (v : ℕ) → v < g.game.graph.vertices
      → chips_at g log v ≡ position_after g.game.graph (chips_given g log) vs v

-- what an event fed: pairs of a vertex and a number of chips
abbrev pub fed_of : Setting → Event → List (ℕ × ℕ)
fed_of g (Feed e k) = (e - graph_edges g, k) ∷ []
fed_of g _ = []

-- what these steps fed, in order
abbrev pub fed_in : Setting → List Step → List (ℕ × ℕ)
fed_in g [] = []
fed_in g (x ∷ xs) = fed_of g x.event ++ fed_in g xs
