-- A worked log, as the definitions compute it.
use Rattle.std.specs.Prelude.{◌≡◌, [], ◌∷◌}
use Rattle.chip_link.specs.declared.trace.TraceRow.TheVariants as Row
use Rattle.chip_part.specs.Worked.{small_triangle}
use Rattle.chip_part.specs.Steps.{saw}
use Rattle.chip_core.specs.Core.{Log, Take, Fire, Clear, Claim, Put}
use Rattle.chip_trace.specs.Interleaving.{row_firings}
use Rattle.chip_run.specs.Replaying.{row_at_vertex, rows_in, traces_in, times_of}

-- vertex 0 of the triangle takes its four chips, fires twice and sends on edge 0, and vertex 1 takes that message after
-- an empty look; the latest comes first
abbrev pub first_steps : Log
first_steps = saw (Take 0) 2 ∷ saw (Put 0) 0 ∷ saw (Take 0) 0 ∷ saw (Claim 0) 0 ∷ saw (Clear 0) 0 ∷ saw (Fire 0 2) 0
    ∷ saw (Take 4) 4 ∷ []

abbrev pub RowsOfFirstSteps : Type 0
RowsOfFirstSteps =
    let g = small_triangle (4 ∷ 0 ∷ 0 ∷ []) in
    (rows_in g first_steps
    ≡ row_at_vertex 0 (Row.Take 4 4) ∷ row_at_vertex 0 (Row.Fire 2) ∷ row_at_vertex 1 (Row.Take 0 2) ∷ [])
    × (traces_in g first_steps ≡ (Row.Take 4 4 ∷ Row.Fire 2 ∷ []) ∷ (Row.Take 0 2 ∷ []) ∷ [] ∷ [])
    × (times_of 0 (row_firings (rows_in g first_steps)) ≡ 2) × (times_of 1 (row_firings (rows_in g first_steps)) ≡ 0)
