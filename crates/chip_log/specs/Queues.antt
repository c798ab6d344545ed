-- Steps that are read and not done.
use Rattle.std.specs.Prelude.{ℕ, ◌+◌, List, [], ◌∷◌, length, map, slice_index_or, Option, Some, None}
use Rattle.chip_log.specs.declared.row.Step.{Step}
use Rattle.chip_log.specs.declared.queues.Queues.TheInside.{Inside}

-- what `Queues` shows: the steps of each process
abbrev pub queues_of : Inside → List (List Step)
queues_of a = map (λ q. q.items) a.steps.items

-- the steps of one
abbrev pub queue_of : List (List Step) → ℕ → List Step
queue_of queues p = slice_index_or queues p []

abbrev pub step_in_front : List Step → Option Step
step_in_front [] = None
step_in_front (step ∷ steps) = Some step

-- how many steps there are
abbrev pub total : List (List Step) → ℕ
total [] = 0
total (steps ∷ queues) = length steps + total queues
