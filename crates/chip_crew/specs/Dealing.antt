-- The deal of the actors to the workers.
use Rattle.std.specs.Prelude.{◌≡◌, ℕ, zero, suc, ◌+◌, ◌*◌, ◌<◌, ◌≤◌, max, List, length}
use Rattle.chip_graph.specs.Multigraph.{Multigraph, edges_out, edges_in}
use Rattle.chip_net.specs.Tokens.{ActorKnown}
use Rattle.chip_crew.specs.Crew.{CrewId, AreFrom}
use Rattle.chip_crew.specs.declared.plan.Sharing.{Sharing}
use Rattle.chip_crew.specs.declared.plan.Sharing.TheVariants as sharing

-- the number of edge ends at a vertex, with its root edge's
abbrev pub ends_at : Multigraph → ℕ → ℕ
ends_at G v = length (edges_out G v) + length (edges_in G v) + 1

-- the number of edge ends at the vertices before this one
abbrev pub ends_before : Multigraph → ℕ → ℕ
ends_before G zero = 0
ends_before G (suc v) = ends_before G v + ends_at G v

-- the first vertex of a worker: the least one with at least as many ends before it as even shares give the workers
-- before
pub record IsShareStart (G : Multigraph) (workers worker v : ℕ) : Type 0 where
  pub reached : worker * ends_before G G.vertices ≤ workers * ends_before G v
  pub least : (u : ℕ) → u < v → workers * ends_before G u < worker * ends_before G G.vertices

-- the same of this crew
abbrev pub IsFirstOf : CrewId → ℕ → ℕ → Type 0
IsFirstOf crew worker v = IsShareStart crew.net.setting.game.graph crew.workers worker v

-- the actors of a worker: from its first vertex up to the next worker's first
pub record AreActorsOf (crew : CrewId) (worker : ℕ) (actors : List ActorKnown) : Type 0 where
  pub from : ℕ
  pub is_first : IsFirstOf crew worker from
  pub is_next : IsFirstOf crew (suc worker) (from + length actors)
  pub each : AreFrom crew from actors

-- the number of turns in a round of worker 0, by the way of sharing: one, or one for each of its actors, at least 1
abbrev pub IsRoundBy : CrewId → Sharing → ℕ → Type 0
IsRoundBy crew sharing.Queue round = round ≡ 1
IsRoundBy crew sharing.Dealt round = (actors : ℕ) × IsFirstOf crew 1 actors × (round ≡ max 1 actors)

-- this number of turns is a round of this crew
abbrev pub IsRoundOfTurns : CrewId → ℕ → Type 0
IsRoundOfTurns crew round = IsRoundBy crew crew.sharing round
