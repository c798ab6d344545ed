-- How far recorded runs fit together, and where they are stuck.
use Rattle.std.specs.Prelude.{◌≡◌, ℕ, ◌<◌, ◌≤◌, Bool, true, false, ◌==◌, ◌||◌, not, List, length, slice_get, Option}
use Rattle.std.specs.Prelude.{Some, None, ◌⊎◌}
use Rattle.chip_link.specs.declared.trace.TraceRow.{TraceRow}
use Rattle.chip_link.specs.declared.trace.TraceRow.TheVariants.{Take, Fire}
use Rattle.chip_graph.specs.ChipGame.{ChipGame}
use Rattle.chip_trace.specs.Interleaving.{goes_into, next_message, is_row_enabled, Placed, rows_of, trace_of, IsPartial}
use Rattle.chip_trace.specs.Interleaving.{IsInterleaving}

-- a partial interleaving in which each vertex has used as many rows as in any other
pub record IsGreatestProgress (g : ChipGame) (traces : List (List TraceRow)) (xs : List Placed) : Type 0 where
  pub partial : IsPartial g traces xs
  pub greatest : (ys : List Placed) → IsPartial g traces ys → (v : ℕ) → length (rows_of ys v) ≤ length (rows_of xs v)

-- the next unused row of v, if it has one
abbrev pub next_row : List (List TraceRow) → List Placed → ℕ → Option TraceRow
next_row traces xs v = slice_get (trace_of traces v) (length (rows_of xs v))

-- whether a message exists and has another count
abbrev pub has_other_count : Option ℕ → ℕ → Bool
has_other_count None count = false
has_other_count (Some message) count = not (message == count)

-- whether the next row of v is wrong: a firing that is not enabled, a take of an edge that does not go into v, or one whose
-- message has another count
abbrev pub is_wrong : ChipGame → (ℕ → List TraceRow) → ℕ → TraceRow → Bool
is_wrong g used v (Take edge count) = not (goes_into g.graph v edge)
    || has_other_count (next_message g used v edge) count
is_wrong g used v (Fire k) = not (is_row_enabled g used v (Fire k))

-- v has a next row, and it is wrong
abbrev pub HasWrongRow : ChipGame → List (List TraceRow) → List Placed → ℕ → Type 0
HasWrongRow g traces xs v = (row : TraceRow) × (next_row traces xs v ≡ Some row)
    × (is_wrong g (rows_of xs) v row ≡ true)

-- v has a next row
abbrev pub HasUnusedRow : List (List TraceRow) → List Placed → ℕ → Type 0
HasUnusedRow traces xs v = length (rows_of xs v) < length (trace_of traces v)

-- v is the least vertex with a property
pub record IsLeast (P : ℕ → Type 0) (v : ℕ) : Type 0 where
  pub here : P v
  pub least : (u : ℕ) → u < v → P u → ⊥

-- v is the least vertex whose next row is wrong; if there is none, the least one with an unused row
abbrev pub IsBlamed : ChipGame → List (List TraceRow) → List Placed → ℕ → Type 0
IsBlamed g traces xs v = IsLeast (HasWrongRow g traces xs) v
    ⊎ (((u : ℕ) → HasWrongRow g traces xs u → ⊥) × IsLeast (HasUnusedRow traces xs) v)

-- the traces have no interleaving, and this vertex is to blame after maximal progress; `row` is the place of its next
-- row
pub record IsStuck (g : ChipGame) (traces : List (List TraceRow)) (vertex row : ℕ) : Type 0 where
  pub none : (xs : List Placed) → IsInterleaving g traces xs → ⊥
  pub blamed : (xs : List Placed) × IsGreatestProgress g traces xs × (length (rows_of xs vertex) ≡ row)
      × IsBlamed g traces xs vertex
