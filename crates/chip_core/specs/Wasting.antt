-- Without wasted steps there are few, and making such steps until none is due closes the root. No fairness is needed.
use Rattle.std.specs.Prelude.{◌≤◌, ℕ, ◌+◌, ◌*◌, [], ◌∷◌, ◌++◌, length}
use Rattle.chip_part.specs.Setting.{Setting}
use Rattle.chip_core.specs.Core.{Log, Event, IsLegalLog, IsClosed, graph_edges}
use Rattle.chip_core.specs.Laws.{ForEveryLog}
use Rattle.chip_core.specs.Work.{steps_at_most, messages_at_most, fed_so_far, AreFiringBounds}
use Rattle.chip_core.specs.Closing.{HasEnd, Advances}

-- each of these steps, made after the log, the latest first, advances where it is made
abbrev pub AllAdvance : Setting → Log → Log → Type 0
AllAdvance g log [] = Unit {0}
AllAdvance g log (x ∷ xs) = AllAdvance g log xs × Advances g (xs ++ log) x.event

-- no event advances
abbrev pub NoneIsDue : Setting → Log → Type 0
NoneIsDue g log = (x : Event) → Advances g log x → ⊥

-- after the end of feeding there are few such steps, and if none is due the root is closed
abbrev pub CoreNoWasteCloses : Type 0
CoreNoWasteCloses = ForEveryLog (λ g log. HasEnd g log → (fired : ℕ → ℕ) → AreFiringBounds g log fired → (xs : Log)
    → IsLegalLog g (xs ++ log) → AllAdvance g log xs
    → (length xs ≤ steps_at_most g.game (length (fed_so_far g log)) fired
    + messages_at_most g.game (length (fed_so_far g log)) fired + 3 * graph_edges g)
    × (NoneIsDue g (xs ++ log) → IsClosed g (xs ++ log)))
