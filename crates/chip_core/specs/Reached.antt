-- The worlds that a running game can reach, by the steps of each part. They grow by one event at a time.
use Rattle.std.specs.Prelude.{◌≡◌, ◌≢◌, ℕ, List, [], ◌∷◌, ◌++◌, None}
use Rattle.chip_part.specs.Setting.{Setting}
use Rattle.chip_core.specs.Core.{Log, Step, Part, opening_part, unmet_rule, part_of, IsLegalLog, seen_of}
use Rattle.chip_core.specs.Histories.{done_by, part_by}

-- the parts by their steps, in order
abbrev pub parts_by : Setting → (ℕ → List Step) → ℕ → Part
parts_by g records p = part_by g (opening_part g) (records p)

-- one part made one step more, enabled, which saw its word as the parts had left it; every other part is unchanged
pub record IsOneMore (g : Setting) (old : ℕ → List Step) (x : Step) (new : ℕ → List Step) : Type 0 where
  pub may : unmet_rule g x.event (parts_by g old (part_of g x.event)) ≡ None
  pub saw : x.seen ≡ seen_of g (parts_by g old) x.event
  pub mine : new (part_of g x.event) ≡ old (part_of g x.event) ++ x ∷ []
  pub others : (p : ℕ) → p ≢ part_of g x.event → new p ≡ old p

-- a reached world: the opening's, without steps, or one step more than a reached one
pub data IsReached (g : Setting) : (ℕ → List Step) → Type 0 where
  at_opening : (records : ℕ → List Step) → ((p : ℕ) → records p ≡ []) → IsReached g records
  one_more : (old new : ℕ → List Step) (x : Step) → IsReached g old → IsOneMore g old x new → IsReached g new

-- they are the worlds of the legal logs
abbrev pub ReachedByLegalLogs : Type 0
ReachedByLegalLogs = (g : Setting)
    → ((log : Log) → IsLegalLog g log → IsReached g (λ p. done_by g p log))
    × ((records : ℕ → List Step) → IsReached g records → (log : Log) × IsLegalLog g log
    × ((p : ℕ) → records p ≡ done_by g p log))
