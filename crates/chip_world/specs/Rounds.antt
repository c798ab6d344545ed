-- Turns, rounds and drives, by the logs before and after them.
use Rattle.std.specs.Prelude.{◌≡◌, ℕ, zero, suc, ◌<◌, ◌≤◌, length, List, [], ◌∷◌, ◌++◌, reverse}
use Rattle.chip_part.specs.Setting.{Setting}
use Rattle.chip_part.specs.Edges.{root_edge}
use Rattle.chip_part.specs.Turn.{IsTurn}
use Rattle.chip_core.specs.Core.{Log, Step, Event, Settle, part_in, IsLegalLog, IsClosed, log_after}
use Rattle.chip_core.specs.Work.{steps_at_most, fed_so_far, AreFiringBounds}
use Rattle.chip_core.specs.Closing.{HasEnd, RootHasPut}
use Rattle.chip_world.specs.World.{WorldState, StandsForLog, WhateverLog}
use Rattle.chip_world.specs.declared.world.driving.Drive.{Drive}
use Rattle.chip_world.specs.declared.world.driving.Drive.TheVariants.{Closed, Unfinished}

-- a whole turn of v: its operations, the first one first, are made in order
pub record IsTurnAfter (g : Setting) (v : ℕ) (before after : Log) : Type 0 where
  pub operations : List Step
  pub are_turn : IsTurn g v (part_in g before v) operations
  pub all_made : after ≡ reverse operations ++ before
  pub all_fit : IsLegalLog g after

-- a turn of each of the first vertices, ascending
abbrev pub AreTurns : Setting → ℕ → Log → Log → Type 0
AreTurns g zero before after = after ≡ before
AreTurns g (suc v) before after = (between : Log) × AreTurns g v before between × IsTurnAfter g v between after

-- a settle of each of the first root edges, ascending
abbrev pub root_settles : Setting → ℕ → List Event
root_settles g zero = []
root_settles g (suc v) = root_settles g v ++ Settle (root_edge g v) ∷ []

-- a settle of every root edge
abbrev pub AreRootsSettled : Setting → Log → Log → Type 0
AreRootsSettled g before after = after ≡ log_after g before (root_settles g g.game.graph.vertices)

-- a round: a turn of each vertex, and then a settle of each root edge
abbrev pub IsWorldRound : Setting → Log → Log → Type 0
IsWorldRound g before after = (between : Log) × AreTurns g g.game.graph.vertices before between × AreRootsSettled g between after

-- the root isn't closed
abbrev pub IsRootOpen : Setting → Log → Type 0
IsRootOpen g log = IsClosed g log → ⊥

-- n rounds in order, the root open before each of them
abbrev pub AreOpenRounds : Setting → ℕ → Log → Log → Type 0
AreOpenRounds g zero before after = after ≡ before
AreOpenRounds g (suc n) before after = (between : Log) × AreOpenRounds g n before between × IsRootOpen g between
    × IsWorldRound g between after

-- what a drive returns after `count` of its rounds: the root is closed; or all are made and it is still open
abbrev pub AnswersDrive : Setting → ℕ → ℕ → Log → Drive → Type 0
AnswersDrive g rounds count after Closed = IsClosed g after
AnswersDrive g rounds count after (Unfinished n) = (n ≡ rounds) × (count ≡ rounds) × IsRootOpen g after

-- a drive of at most `rounds` rounds: it makes the fewest that close the root, or all of them
pub record IsDrive (g : Setting) (rounds : ℕ) (before after : Log) (result : Drive) : Type 0 where
  pub count : ℕ
  pub within : count ≤ rounds
  pub are_rounds : AreOpenRounds g count before after
  pub answers : AnswersDrive g rounds count after result

-- whatever log the old world represents, the new one represents a log that follows it in this way
abbrev pub LeadsWorld : WorldState → WorldState → (Setting → Log → Log → Type 0) → Type 0
LeadsWorld old new Follows = WhateverLog old (λ g before. (after : Log) × StandsForLog g after new × Follows g before after)

-- no drive from there ends otherwise: the new world represents the log after it, and this is its result
abbrev pub NoOtherDrive : WorldState → WorldState → ℕ → Drive → Type 0
NoOtherDrive old new rounds result = WhateverLog old (λ g before. (after : Log) (answer : Drive)
    → IsDrive g rounds before after answer → StandsForLog g after new × (answer ≡ result))

-- once the end is noted and no message of the root is claimed and not put, more rounds than the number of steps that
-- can count close the root
abbrev pub ClosesBy : WorldState → ℕ → Drive → Type 0
ClosesBy old rounds result = WhateverLog old (λ g before. HasEnd g before → RootHasPut g before → (fired : ℕ → ℕ)
    → AreFiringBounds g before fired → steps_at_most g.game (length (fed_so_far g before)) fired < rounds
    → result ≡ Closed)
