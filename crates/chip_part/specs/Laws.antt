-- The theorems on every game, every event and every part, as the contracts of `laws` state them.
use Rattle.std.specs.Prelude.{◌≤◌, List, length, ◌≡◌, ℕ, ◌+◌, ◌<◌, ◌↔◌, ◌⊎◌, true, None}
use Rattle.chip_graph.specs.Multigraph.{IsGraph, sum_out, sum_in, degree}
use Rattle.chip_graph.specs.ChipGame.{IsGame}
use Rattle.chip_part.specs.Setting.{Setting}
use Rattle.chip_part.specs.Edges.{root_edge, over_outs, over_ins, mult_of}
use Rattle.chip_part.specs.Part.{Part, opening_part, deficit_of, is_passive}
use Rattle.chip_part.specs.Rules.{Event, unmet_rule}
use Rattle.chip_part.specs.Steps.{Step, part_of, does}
use Rattle.chip_part.specs.Kept.{Met, KeepsPart}
use Rattle.chip_part.specs.Turn.{IsTurn, most_steps, turn}
use Rattle.chip_part.specs.Counting.{work_of}

-- no rule is unmet exactly if each holds
abbrev pub RulesMean : Type 0
RulesMean = (g : Setting) (x : Event) (s : Part) → (unmet_rule g x s ≡ None) ↔ Met g x s

-- every part opens with the invariants, and keeps them by each enabled event that it makes, whatever this sees
abbrev pub OpeningKeeps : Type 0
OpeningKeeps = (g : Setting) → IsGame g.game → (p : ℕ) → KeepsPart g p (opening_part g)

abbrev pub EventsKeep : Type 0
EventsKeep = (g : Setting) (x : Step) (s : Part) → unmet_rule g x.event s ≡ None → KeepsPart g (part_of g x.event) s
    → KeepsPart g (part_of g x.event) (does g x s)

-- sums over the edges out of a vertex are the graph's, and those over the edges into it have the root edge's term more
abbrev pub SumsAddRootEdges : Type 0
SumsAddRootEdges =
    (g : Setting) → IsGraph g.game.graph → (v : ℕ) → v < g.game.graph.vertices → (f : ℕ → ℕ)
    → (over_outs g v f ≡ sum_out g.game.graph v f) × (over_outs g v (mult_of g) ≡ degree g.game.graph v)
    × (over_ins g v f ≡ sum_in g.game.graph v f + f (root_edge g v))

-- a turn that begins from a part with the invariants has at most `most_steps` operations
abbrev pub TurnIsBounded : Type 0
TurnIsBounded =
    (g : Setting) (v : ℕ) → v < g.game.graph.vertices → (s : Part) → KeepsPart g v s → (ds : List Step) → IsTurn g v s ds
    → length ds ≤ most_steps g v

-- a turn of which no step counts leaves a passive vertex neutral, or waiting for acknowledgements
abbrev pub IdleTurnRests : Type 0
IdleTurnRests =
    (g : Setting) (v : ℕ) (s : Part) (ds : List Step) (after : Part)
    → turn g v s ds after → work_of g s ds ≡ 0 → KeepsPart g v after → is_passive g v after ≡ true
    → (after.parent ≡ None) ⊎ (0 < deficit_of g v after)
