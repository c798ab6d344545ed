-- The events of one part of the core, and the part after them.
use Rattle.std.specs.Prelude.{ℕ, ◌==◌, if◌then◌else◌, List, [], ◌∷◌, ◌++◌}
use Rattle.chip_part.specs.Setting.{Setting}
use Rattle.chip_core.specs.Core.{Log, Step, Part, part_of, does}

-- the events that part p made, in order
abbrev pub done_by : Setting → ℕ → Log → List Step
done_by g p [] = []
done_by g p (x ∷ log) = if part_of g x.event == p then done_by g p log ++ x ∷ [] else done_by g p log

-- a part after its own events, in order
abbrev pub part_by : Setting → Part → List Step → Part
part_by g s [] = s
part_by g s (x ∷ xs) = part_by g (does g x s) xs
