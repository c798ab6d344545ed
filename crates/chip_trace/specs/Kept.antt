-- What a replay keeps while it runs.
use Rattle.std.specs.Prelude.{◌≡◌, ℕ, ◌+◌, ◌-◌, ◌*◌, ◌^◌, ◌<◌, ◌≤◌, true, false, List, [], ◌∷◌, ◌++◌, length, sum, take}
use Rattle.std.specs.Prelude.{◌==◌, ◌&&◌, not, nat_lt, nat_le, map, slice_get, slice_set, slice_index, slice_index_or}
use Rattle.std.specs.Prelude.{Option, Some, None, ◌⊎◌}
use Rattle.chip_link.specs.declared.trace.TraceRow.{TraceRow}
use Rattle.chip_link.specs.declared.trace.TraceRow.TheVariants.{Take, Fire}
use Rattle.chip_graph.specs.Sums.{sum_below, filter_below}
use Rattle.chip_graph.specs.Multigraph.{degree}
use Rattle.chip_graph.specs.ChipGame.{ChipGame}
use Rattle.chip_trace.specs.declared.progress.ReplayProgress.{ReplayProgress}
use Rattle.chip_trace.specs.declared.look.Finding.{Finding}
use Rattle.chip_trace.specs.declared.look.Finding.TheVariants as finding
use Rattle.chip_trace.specs.Agenda.{ReplayAgenda}
use Rattle.chip_trace.specs.Interleaving.{takes_of, goes_into, is_row_enabled, Placed, rows_of, AreRowsEnabled, trace_of, row_firings}
use Rattle.chip_trace.specs.Progress.{is_wrong, IsLeast}
use Rattle.chip_trace.specs.Left.{messages_left, chips_held, legal_left, left_of}
use Rattle.chip_trace.specs.declared.remaining.Left.{Left}
use Rattle.chip_trace.specs.declared.remaining.Left.TheVariants.{Messages}
use Rattle.chip_trace.specs.Runner.{RunnerState, at_start, runner_of}

-- how far v has come
abbrev pub runner_at : ReplayProgress → ℕ → RunnerState
runner_at p v = slice_index_or p.runners.items v at_start

-- the firings of each vertex, by what is kept
abbrev pub kept_fires : ReplayProgress → ℕ → List ℕ
kept_fires p v = (runner_at p v).fires

-- the chips that each vertex took, by what is kept
abbrev pub kept_chips : ReplayProgress → ℕ → ℕ
kept_chips p v = (runner_at p v).chips

-- how many messages of each edge were taken, by what is kept
abbrev pub kept_taken : ReplayProgress → ℕ → ℕ
kept_taken p e = slice_index p.taken.items e

-- what is left of the edges below n, by what is kept
abbrev pub kept_edges : ChipGame → ReplayProgress → ℕ → List Left
kept_edges g p n =
    map (λ e. Messages e (messages_left g (kept_fires p) (kept_taken p) e))
    (filter_below (λ e. nat_lt 0 (messages_left g (kept_fires p) (kept_taken p) e)) n)

-- what is left of the vertices below n, by what is kept
abbrev pub kept_vertices : ChipGame → ReplayProgress → ℕ → List Left
kept_vertices g p n =
    map (legal_left g (kept_fires p)) (filter_below (λ v. not (v == g.graph.sink)
    && nat_le (degree g.graph v) (chips_held g (kept_fires p) (kept_chips p) v)) n)

-- what is left, by what is kept
abbrev pub kept_left : ChipGame → ReplayProgress → List Left
kept_left g p = left_of g (kept_fires p) (kept_chips p) (kept_taken p)

-- the rows that v has used
abbrev pub rows_used : List (List TraceRow) → ReplayProgress → ℕ → List TraceRow
rows_used traces p v = take (runner_at p v).used (trace_of traces v)

-- the next unused row of v, if it has one
abbrev pub row_after : List (List TraceRow) → ReplayProgress → ℕ → Option TraceRow
row_after traces p v = slice_get (trace_of traces v) (runner_at p v).used

-- some list has the rows used so far, each enabled, and these firings
pub record IsReplayReached (g : ChipGame) (traces : List (List TraceRow)) (p : ReplayProgress)
    (xs : List Placed) : Type 0 where
  pub met : AreRowsEnabled g [] xs
  pub rows : (v : ℕ) → rows_of xs v ≡ rows_used traces p v
  pub fired : p.firings.items ≡ row_firings xs

-- what is kept for vertices and edges is the result of the used rows, which were enabled one after another
pub record IsReplayKept (g : ChipGame) (traces : List (List TraceRow)) (p : ReplayProgress) : Type 0 where
  pub runner_each : length p.runners.items ≡ g.graph.vertices
  pub taken_each : length p.taken.items ≡ length g.graph.edges + g.graph.vertices
  pub runners : (v : ℕ) → runner_at p v ≡ runner_of (rows_used traces p v)
  pub few_chips : (v : ℕ) → (runner_at p v).chips ≤ (runner_at p v).used * 2 ^ 64
  pub taken : (v e : ℕ) → goes_into g.graph v e ≡ true → slice_index p.taken.items e ≡ takes_of e (rows_used traces p v)
  pub reached : (xs : List Placed) × IsReplayReached g traces p xs

-- v uses a row: what it took or fired is noted
abbrev pub UsesRow : ℕ → TraceRow → ReplayProgress → ReplayProgress → Type 0
UsesRow v (Take edge count) p q =
    (q.runners.items ≡ slice_set p.runners.items v
    (record {
      used = (runner_at p v).used + 1;
      fires = (runner_at p v).fires;
      chips = (runner_at p v).chips
          + count;
    }))
    × (q.taken.items ≡ slice_set p.taken.items edge (slice_index p.taken.items edge + 1))
    × (q.firings.items ≡ p.firings.items)
UsesRow v (Fire k) p q =
    (q.runners.items ≡ slice_set p.runners.items v
    (record {
      used = (runner_at p v).used + 1;
      fires = (runner_at p v).fires ++ k ∷ [];
      chips = (runner_at p v).chips;
    }))
    × (q.taken.items ≡ p.taken.items)
    × (q.firings.items ≡ p.firings.items ++ (v, k) ∷ [])

-- the numbers that note a row fit their types
abbrev pub FitsTypes : ℕ → TraceRow → ReplayProgress → Type 0
FitsTypes v (Take edge count) p = (edge < length p.taken.items) × (slice_index p.taken.items edge + 1 < 2 ^ 64)
    × ((runner_at p v).chips + count < 2 ^ 128) × (count < 2 ^ 64)
FitsTypes v (Fire k) p = sum (runner_at p v).fires + k < 2 ^ 64

-- how many rows are unused
abbrev pub rows_left : List (List TraceRow) → ReplayProgress → ℕ
rows_left traces p = sum_below (length p.runners.items) (λ v. length (trace_of traces v) - (runner_at p v).used)

-- the next row of v is enabled, and there is room to note that it is used
pub record MayUse (g : ChipGame) (traces : List (List TraceRow)) (p : ReplayProgress) (v : ℕ)
    (row : TraceRow) : Type 0 where
  pub next : row_after traces p v ≡ Some row
  pub met : is_row_enabled g (rows_used traces p) v row ≡ true
  pub room : (runner_at p v).used + 1 < 2 ^ 64
  pub fits : FitsTypes v row p

-- no next row is enabled
abbrev pub IsReplayBlocked : ChipGame → List (List TraceRow) → ReplayProgress → Type 0
IsReplayBlocked g traces p = (v : ℕ) → v < g.graph.vertices → (row : TraceRow) → row_after traces p v ≡ Some row
    → is_row_enabled g (rows_used traces p) v row ≡ false

-- v has a next row, and it is wrong
abbrev pub IsWrongAt : ChipGame → List (List TraceRow) → ReplayProgress → ℕ → Type 0
IsWrongAt g traces p v = (row : TraceRow) × (row_after traces p v ≡ Some row)
    × (is_wrong g (rows_used traces p) v row ≡ true)

-- v has a next row
abbrev pub IsUnusedAt : List (List TraceRow) → ReplayProgress → ℕ → Type 0
IsUnusedAt traces p v = (runner_at p v).used < length (trace_of traces v)

-- no vertex below n has a property
abbrev pub NoneBelow : ℕ → (ℕ → Type 0) → Type 0
NoneBelow n P = (v : ℕ) → v < n → P v → ⊥

-- the result of a search for the least vertex below n with a property
abbrev pub IsLeastFound : ℕ → (ℕ → Type 0) → Option ℕ → Type 0
IsLeastFound n P None = NoneBelow n P
IsLeastFound n P (Some v) = (v < n) × IsLeast P v

-- the vertex to blame, if rows are left: the least one whose next row is wrong, else the least one with a next row
abbrev pub IsToBlame : ChipGame → List (List TraceRow) → ReplayProgress → Option ℕ → Type 0
IsToBlame g traces p None = NoneBelow g.graph.vertices (IsUnusedAt traces p)
IsToBlame g traces p (Some v) = (v < g.graph.vertices)
    × (IsLeast (IsWrongAt g traces p) v
    ⊎ (NoneBelow g.graph.vertices (IsWrongAt g traces p) × IsLeast (IsUnusedAt traces p) v))

-- what a visit to the next row of v finds
abbrev pub Finds : ChipGame → List (List TraceRow) → ReplayProgress → ℕ → Finding → Type 0
Finds g traces p v finding.Done = row_after traces p v ≡ None
Finds g traces p v (finding.Met row) = MayUse g traces p v row
Finds g traces p v finding.Wrong = (row : TraceRow) × (row_after traces p v ≡ Some row)
    × (is_row_enabled g (rows_used traces p) v row ≡ false) × (is_wrong g (rows_used traces p) v row ≡ true)
Finds g traces p v (finding.Waits edge) = (row : TraceRow) × (row_after traces p v ≡ Some row)
    × (is_row_enabled g (rows_used traces p) v row ≡ false) × (is_wrong g (rows_used traces p) v row ≡ false)

-- how much is left to do: rows to use, and after them vertices to visit
abbrev pub work_left : List (List TraceRow) → ReplayProgress → ReplayAgenda → ℕ
work_left traces p a = rows_left traces p * 2 ^ 64 + a.due

-- a replay goes on from p and a to q and b: what is kept stays right, and no more is left to do
pub record ReplayGoesOn (g : ChipGame) (traces : List (List TraceRow)) (p : ReplayProgress) (a : ReplayAgenda)
    (q : ReplayProgress) (b : ReplayAgenda) : Type 0 where
  pub kept : IsReplayKept g traces q
  pub same : b.vertices ≡ a.vertices
  pub work : work_left traces q b ≤ work_left traces p a
