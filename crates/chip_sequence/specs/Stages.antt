-- A play in several stages: the counts before each, and the totals of all stages.
use Rattle.std.specs.Prelude.{◌≡◌, ℕ, ◌+◌, ◌^◌, ◌≤◌, All, List, [], ◌∷◌, length, slice_index}
use Rattle.chip_graph.specs.Multigraph.{Multigraph, IsGraph}
use Rattle.chip_graph.specs.ChipGame.{ChipGame}
use Rattle.chip_sequence.specs.declared.outcome.Outcome.{Outcome}
use Rattle.chip_sequence.specs.declared.resumed.Resumed.{Resumed}
use Rattle.chip_sequence.specs.Outcomes.{IsOutcome}
use Rattle.chip_sequence.specs.Play.{IsPlayed}
use Rattle.chip_sequence.specs.Sequence.{position_after, IsFiringSequence, counts, HasEnded}

-- the most firings of a vertex before a stage
abbrev pub max_prior : ℕ
max_prior = 2 ^ 60

-- numbers that a report accepts: an outcome, and one number in range for each vertex of it
pub record IsResumed (r : Resumed) : Type 0 where
  pub outcome_fits : IsOutcome r.outcome
  pub prior_each : length r.prior.items ≡ length r.outcome.fired.items
  pub few_before : All (λ n. n ≤ max_prior) r.prior.items

-- how often v fired in all stages, the last one among them
abbrev pub fired_in_all : Resumed → ℕ → ℕ
fired_in_all r v = slice_index r.prior.items v + slice_index r.outcome.fired.items v

-- firings with these counts lead from the configuration x to the configuration y
pub record LeadsBy (G : Multigraph) (x f y : ℕ → ℕ) (vs : List ℕ) : Type 0 where
  pub sequence : IsFiringSequence G x vs
  pub counted : (v : ℕ) → f v ≡ counts vs v
  pub position : (v : ℕ) → y v ≡ position_after G x vs v

-- some firings do
abbrev pub LeadsTo : Multigraph → (x f y : ℕ → ℕ) → Type 0
LeadsTo G x f y = (vs : List ℕ) × LeadsBy G x f y vs

-- the counts of all stages lead from x to these chips
abbrev pub IsPlayFrom : Multigraph → (ℕ → ℕ) → Resumed → Type 0
IsPlayFrom G x r = LeadsTo G x (fired_in_all r) (slice_index r.outcome.chips.items)

-- stages in order, each by its counts and the configuration after it: each begins where the one before it ended
abbrev pub AreStages : Multigraph → (ℕ → ℕ) → List ((ℕ → ℕ) × (ℕ → ℕ)) → Type 0
AreStages G x [] = Unit {0}
AreStages G x ((f, y) ∷ rest) = LeadsTo G x f y × AreStages G y rest

-- how often v fired in all of them
abbrev pub counts_of_all : List ((ℕ → ℕ) × (ℕ → ℕ)) → ℕ → ℕ
counts_of_all [] v = 0
counts_of_all ((f, y) ∷ rest) v = f v + counts_of_all rest v

-- the configuration after the last of them
abbrev pub left_by_all : (ℕ → ℕ) → List ((ℕ → ℕ) × (ℕ → ℕ)) → ℕ → ℕ
left_by_all x [] = x
left_by_all x ((f, y) ∷ rest) = left_by_all y rest

-- for every number of stages: with the counts of a sequence that continues to an end, they are the counts of every
-- sequence from the first start that ends, and all end at the same configuration
abbrev pub StagesAddUp : Type 0
StagesAddUp =
    (G : Multigraph) → IsGraph G → (x : ℕ → ℕ) (stages : List ((ℕ → ℕ) × (ℕ → ℕ))) → AreStages G x stages
    → (ws : List ℕ) → IsFiringSequence G (left_by_all x stages) ws → HasEnded G (left_by_all x stages) ws
    → (vs : List ℕ) → IsFiringSequence G x vs → HasEnded G x vs
    → ((v : ℕ) → counts_of_all stages v + counts ws v ≡ counts vs v)
    × ((v : ℕ) → position_after G (left_by_all x stages) ws v ≡ position_after G x vs v)

-- the outcome of a game is such a stage, whether or not the limit halted vertices
abbrev pub PlayedIsStage : Type 0
PlayedIsStage = (g : ChipGame) (o : Outcome) → IsPlayed g o
    → LeadsTo g.graph (slice_index g.start) (slice_index o.fired.items) (slice_index o.chips.items)
