-- The number of steps of a log that count as work, and its bound.
use Rattle.std.specs.Prelude.{ℕ, ◌<◌, ◌≤◌, ◌+◌, ◌*◌, ◌==◌, Bool, true, false, if◌then◌else◌, List, [], ◌∷◌, length, sum}
use Rattle.std.specs.Prelude.{slice_index, min}
use Rattle.chip_graph.specs.ChipGame.{ChipGame}
use Rattle.chip_graph.specs.Multigraph.{edge_at, IsDistance}
use Rattle.chip_graph.specs.More.{all_brought}
use Rattle.chip_graph.specs.Sums.{sum_below}
use Rattle.chip_sequence.specs.Bound.{fires_at_distance}
use Rattle.chip_sequence.specs.Sequence.{counts, IsWholePlay}
use Rattle.chip_part.specs.Setting.{Setting}
use Rattle.chip_part.specs.Acting.{act_of}
use Rattle.chip_part.specs.Counting.{is_work}
use Rattle.chip_part.specs.declared.reply.Reply.TheVariants.{Sealed}
use Rattle.chip_core.specs.Core.{Log, Step, Event, Reply, Part, Claim, reply_of, root, graph_edges}
use Rattle.chip_core.specs.Histories.{done_by}
use Rattle.chip_core.specs.Positions.{chips_given, fed_in}
use Rattle.chip_core.specs.Laws.{ForEveryLog}
use Rattle.chip_core.specs.Words.{acting_part}

-- a step of this part counts: it took a message, fired, sent, put, halted, acknowledged or settled something new
abbrev pub counts_as_work : Setting → Part → Step → Bool
counts_as_work g s x = is_work (act_of g x.event s) (reply_of g x.event x.seen s)

-- a claim was refused by a seal
abbrev pub is_refused_claim : Event → Reply → Bool
is_refused_claim (Claim e) Sealed = true
is_refused_claim _ _ = false

abbrev pub is_refusal : Setting → Part → Step → Bool
is_refusal g s x = is_refused_claim x.event (reply_of g x.event x.seen s)

-- the number of steps of a log that count
abbrev pub work_in : Setting → Log → ℕ
work_in g [] = 0
work_in g (x ∷ log) = (if counts_as_work g (acting_part g log x.event) x then 1 else 0) + work_in g log

-- the number of its refused claims
abbrev pub refusals_in : Setting → Log → ℕ
refusals_in g [] = 0
refusals_in g (x ∷ log) = (if is_refusal g (acting_part g log x.event) x then 1 else 0) + refusals_in g log

-- the number of vertices that start with chips
abbrev pub starters : ChipGame → ℕ
starters game = sum_below game.graph.vertices (λ v. if slice_index game.start v == 0 then 0 else 1)

-- the most messages other than the first ones, if the root makes `feeds` feeds and each vertex v fires at most
-- `fired v` times: one for each feed, and one for each firing on each edge out of the vertex
abbrev pub messages_at_most : ChipGame → ℕ → (ℕ → ℕ) → ℕ
messages_at_most game feeds fired = sum_below (length game.graph.edges) (λ e. fired (edge_at game.graph e).tail) + feeds

-- the most steps that can count there: the firings; a claim, a put, a take, an acknowledgement and a settle of each
-- message; the last three of a first message; and a halt of each vertex
abbrev pub steps_at_most : ChipGame → ℕ → (ℕ → ℕ) → ℕ
steps_at_most game feeds fired =
    sum_below game.graph.vertices fired + 5 * messages_at_most game feeds fired + 3 * starters game + game.graph.vertices

-- a bound on the firings of each vertex, if these chips are fed, by its distance from the sink
abbrev pub fires_at_most : ChipGame → List (ℕ × ℕ) → (ℕ → ℕ) → ℕ → ℕ
fires_at_most game fed distance v =
    min game.limit (fires_at_distance game.graph (sum game.start + all_brought fed) (distance v))

-- the root's feeds so far, by its own record
abbrev pub fed_so_far : Setting → Log → List (ℕ × ℕ)
fed_so_far g log = fed_in g (done_by g (root g) log)

-- no vertex fires more often than this in a whole play of all that was given
pub record AreFiringBounds (g : Setting) (log : Log) (fired : ℕ → ℕ) : Type 0 where
  pub firings : List ℕ
  pub whole : IsWholePlay g.game.graph (chips_given g log) g.game.limit firings
  pub enough : (v : ℕ) → v < g.game.graph.vertices → counts firings v ≤ fired v

-- then the number of steps that count is within the bound for such numbers: the counts of a whole play themselves
abbrev pub FewSteps : Type 0
FewSteps = ForEveryLog (λ g log. (fired : ℕ → ℕ) → AreFiringBounds g log fired
    → work_in g log ≤ steps_at_most g.game (length (fed_so_far g log)) fired)

-- or those that a program can compute, from the limit and each vertex's distance from the sink
abbrev pub DistancesBound : Type 0
DistancesBound = ForEveryLog (λ g log. (distance : ℕ → ℕ)
    → ((v : ℕ) → v < g.game.graph.vertices → IsDistance g.game.graph v (distance v))
    → AreFiringBounds g log (fires_at_most g.game (fed_so_far g log) distance))

-- and at most one claim of each graph edge is refused
abbrev pub FewRefusals : Type 0
FewRefusals = ForEveryLog (λ g log. refusals_in g log ≤ graph_edges g)
