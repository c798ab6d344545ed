-- A running world, and the logs of the core that it represents.
use Rattle.std.specs.Prelude.{◌≡◌, ℕ, ◌-◌, ◌<◌, if◌then◌else◌, List, [], length, slice_index}
use Rattle.std.specs.Prelude.{slice_index_or}
use Rattle.chip_graph.specs.ChipGame.{ChipGame}
use Rattle.chip_graph.specs.Edges.{is_graph_edge, own_edges}
use Rattle.chip_part.specs.Setting.{Setting, IsSetting}
use Rattle.chip_link.specs.Link.{WordsShow}
use Rattle.chip_actor.specs.Actor as vertex
use Rattle.chip_actor.specs.Root.{Root, RootStandsFor}
use Rattle.chip_core.specs.Core.{Log, Event, Reply, part_in, out_in, into_in, stop_in, all_edges}
use Rattle.chip_core.specs.Core.{root}
use Rattle.chip_core.specs.Core.{IsLegalLog, step}
use Rattle.chip_world.specs.SharedWords.{EdgeState, opening_words}

-- the view of a `World`: its setting, an actor for each vertex, the shared words of each edge, and the root
pub record WorldState : Type 0 where
  pub setting : Setting
  pub actors : List vertex.Actor
  pub words : List EdgeState
  pub root : Root

-- the words of the edge e are those after this log
pub record ShowsEdge (g : Setting) (log : Log) (e : ℕ) (w : EdgeState) : Type 0 where
  pub cells_each : length w.cells ≡ g.ring
  pub shows : WordsShow g.ring w.word (slice_index w.cells) (out_in g log e).link (into_in g log e).got (stop_in g log e)
  pub acknowledged : w.acknowledged ≡ (into_in g log e).acked

-- the actor of v represents the part of v
pub record IsActor (g : Setting) (log : Log) (v : ℕ) (a : vertex.Actor) : Type 0 where
  pub vertex_is : a.vertex ≡ v
  pub stands : vertex.StandsFor g (part_in g log v) a

-- the world is the one after this log
pub record StandsForLog (g : Setting) (log : Log) (w : WorldState) : Type 0 where
  pub setting : w.setting ≡ g
  pub is_setting : IsSetting g
  pub legal : IsLegalLog g log
  pub actors_each : length w.actors ≡ g.game.graph.vertices
  pub actors : (v : ℕ) → v < g.game.graph.vertices → (d : vertex.Actor) → IsActor g log v (slice_index_or w.actors v d)
  pub words_each : length w.words ≡ all_edges g
  pub words : (e : ℕ) → e < all_edges g → (d : EdgeState) → ShowsEdge g log e (slice_index_or w.words e d)
  pub root_stands : RootStandsFor g (part_in g log (root g)) w.root

-- it is the world after some log
abbrev pub SomeLogLeaves : WorldState → Type 0
SomeLogLeaves w = (g : Setting) × (log : Log) × StandsForLog g log w

-- every log that it is the world after has this property
abbrev pub WhateverLog : WorldState → (Setting → Log → Type 0) → Type 0
WhateverLog w P = (g : Setting) (log : Log) → StandsForLog g log w → P g log

-- it is the world after some log with this property
abbrev pub SomeLogWhere : WorldState → (Setting → Log → Type 0) → Type 0
SomeLogWhere w P = (g : Setting) × (log : Log) × StandsForLog g log w × P g log

-- the world is the one after a step of the core for this event, and this is the reply
abbrev pub MakesStep : Setting → Log → Event → WorldState → Reply → Type 0
MakesStep g log x new reply = StandsForLog g (step g log x).0 new × (reply ≡ (step g log x).1)

-- the world made one step of the core for this event, and returned this
abbrev pub Steps : WorldState → WorldState → Event → Reply → Type 0
Steps old new x reply = WhateverLog old (λ g log. MakesStep g log x new reply)

-- the chips on an edge at the opening: on a root edge those its vertex starts with
abbrev pub first_chips : ChipGame → ℕ → ℕ
first_chips game e =
    if is_graph_edge game.graph e then 0 else slice_index game.start (e - own_edges game.graph)

-- the words of the first edges as the game opens
pub record AreOpeningWords (g : Setting) (count : ℕ) (words : List EdgeState) : Type 0 where
  pub count_is : length words ≡ count
  pub each : (e : ℕ) → e < count → (d : EdgeState)
      → slice_index_or words e d ≡ opening_words g.ring (first_chips g.game e)

-- an actor for each of the first vertices as the game opens
pub record AreOpeningActors (g : Setting) (count : ℕ) (actors : List vertex.Actor) : Type 0 where
  pub count_is : length actors ≡ count
  pub each : (v : ℕ) → v < count → (d : vertex.Actor) → IsActor g [] v (slice_index_or actors v d)
