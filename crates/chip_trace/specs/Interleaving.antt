-- Interleavings of recorded runs: all rows of all vertices in one list, each enabled at its place.
use Rattle.std.specs.Prelude.{◌≡◌, ℕ, zero, suc, ◌+◌, ◌-◌, ◌*◌, ◌==◌, nat_lt, nat_le, Bool, true, false, ◌&&◌, not}
use Rattle.std.specs.Prelude.{if◌then◌else◌, List, [], ◌∷◌, ◌++◌, length, map, sum, slice_get, slice_index}
use Rattle.std.specs.Prelude.{slice_index_or, Option, Some, None}
use Rattle.chip_link.specs.declared.trace.TraceRow.{TraceRow}
use Rattle.chip_link.specs.declared.trace.TraceRow.TheVariants.{Take, Fire}
use Rattle.chip_graph.specs.Multigraph.{Multigraph, edge_at, degree}
use Rattle.chip_graph.specs.ChipGame.{ChipGame}

-- ---- what the rows of one vertex result in

-- the firings, in order
abbrev pub fires : List TraceRow → List ℕ
fires [] = []
fires (Take edge count ∷ rows) = fires rows
fires (Fire k ∷ rows) = k ∷ fires rows

-- the chips that were taken
abbrev pub chips_taken : List TraceRow → ℕ
chips_taken [] = 0
chips_taken (Take edge count ∷ rows) = count + chips_taken rows
chips_taken (Fire k ∷ rows) = chips_taken rows

-- how many messages of an edge were taken
abbrev pub takes_of : ℕ → List TraceRow → ℕ
takes_of e [] = 0
takes_of e (Take edge count ∷ rows) = (if edge == e then 1 else 0) + takes_of e rows
takes_of e (Fire k ∷ rows) = takes_of e rows

-- ---- when a row is enabled

-- the message with which a root edge opens, if its vertex has chips at the start
abbrev pub opening : ℕ → List ℕ
opening zero = []
opening (suc chips) = suc chips ∷ []

-- the messages of an edge, in order, if the vertices have made these firings: one for each firing of its tail; root
-- edge m + v, after the m graph edges, has the start of v
abbrev pub messages : ChipGame → (ℕ → List ℕ) → ℕ → List ℕ
messages g fired e =
    if nat_lt e (length g.graph.edges)
    then map (λ k. k * (edge_at g.graph e).mult) (fired (edge_at g.graph e).tail)
    else opening (slice_index g.start (e - length g.graph.edges))

-- whether an edge goes into v, its root edge among them
abbrev pub goes_into : Multigraph → ℕ → ℕ → Bool
goes_into G v e = if nat_lt e (length G.edges) then (edge_at G e).head == v else e == length G.edges + v

-- the first message of an edge into v that v has not taken, if there is one, once each vertex has used these rows
abbrev pub next_message : ChipGame → (ℕ → List TraceRow) → ℕ → ℕ → Option ℕ
next_message g used v e = slice_get (messages g (λ u. fires (used u)) e) (takes_of e (used v))

-- whether a message exists and has this count
abbrev pub has_count : Option ℕ → ℕ → Bool
has_count None count = false
has_count (Some message) count = message == count

-- whether v may fire k times: it is not the sink, all its firings stay within the limit, and the chips that it took pay
-- for them
abbrev pub may_fire : ChipGame → ℕ → ℕ → ℕ → ℕ → Bool
may_fire g v fired chips k = not (v == g.graph.sink) && nat_lt 0 k
    && (nat_le (fired + k) g.limit && nat_le ((fired + k) * degree g.graph v) chips)

-- whether a row of v is enabled, once each vertex has used these rows
abbrev pub is_row_enabled : ChipGame → (ℕ → List TraceRow) → ℕ → TraceRow → Bool
is_row_enabled g used v (Take edge count) = goes_into g.graph v edge && has_count (next_message g used v edge) count
is_row_enabled g used v (Fire k) = may_fire g v (sum (fires (used v))) (chips_taken (used v)) k

-- ---- interleavings

-- a row in an interleaving, and the vertex whose row it is
pub record Placed : Type 0 where
  pub vertex : ℕ
  pub row : TraceRow

-- the rows of v in a list, in their order
abbrev pub rows_of : List Placed → ℕ → List TraceRow
rows_of [] v = []
rows_of (x ∷ xs) v = if x.vertex == v then x.row ∷ rows_of xs v else rows_of xs v

-- each row of a list is enabled at its place, after the rows before it
abbrev pub AreRowsEnabled : ChipGame → List Placed → List Placed → Type 0
AreRowsEnabled g before [] = Unit {0}
AreRowsEnabled g before (x ∷ xs) = (is_row_enabled g (rows_of before) x.vertex x.row ≡ true) × AreRowsEnabled g (before ++ x ∷ []) xs

-- the trace of v
abbrev pub trace_of : List (List TraceRow) → ℕ → List TraceRow
trace_of traces v = slice_index_or traces v []

-- some rows of the traces in one list: of each vertex the first ones, in their order, and each enabled at its place
pub record IsPartial (g : ChipGame) (traces : List (List TraceRow)) (xs : List Placed) : Type 0 where
  pub in_order : (v : ℕ) → (rest : List TraceRow) × (rows_of xs v ++ rest ≡ trace_of traces v)
  pub met : AreRowsEnabled g [] xs

-- all rows of the traces in one list: those of each vertex in their order, and each enabled at its place
pub record IsInterleaving (g : ChipGame) (traces : List (List TraceRow)) (xs : List Placed) : Type 0 where
  pub whole : (v : ℕ) → rows_of xs v ≡ trace_of traces v
  pub met : AreRowsEnabled g [] xs

-- a row's firing with its vertex, if it is one, before later ones
abbrev pub with_firing : ℕ → TraceRow → List (ℕ × ℕ) → List (ℕ × ℕ)
with_firing v (Take edge count) later = later
with_firing v (Fire k) later = (v, k) ∷ later

-- the firings in a list of rows, each with its vertex, in their order
abbrev pub row_firings : List Placed → List (ℕ × ℕ)
row_firings [] = []
row_firings (x ∷ xs) = with_firing x.vertex x.row (row_firings xs)
