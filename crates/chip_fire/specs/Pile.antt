-- What a pile keeps from drop to drop.
use Rattle.std.specs.Prelude.{◌≡◌, ℕ, ◌-◌, ◌*◌, ◌≤◌, List, length, take, slice_index, true, Option, IfSome}
use Rattle.chip_graph.specs.Sums.{sum_below}
use Rattle.chip_graph.specs.Multigraph.{Multigraph}
use Rattle.chip_graph.specs.ChipGame.{ChipGame, IsGame}
use Rattle.chip_graph.specs.More.{HasMore}
use Rattle.chip_sequence.specs.Firing.{IsStable}
use Rattle.chip_sequence.specs.Stages.{LeadsTo}
use Rattle.chip_fire.specs.Rounds.{IsBegun, IsAtRest}
use Rattle.chip_fire.specs.WorkList.{HasSupport}
use Rattle.chip_fire.specs.declared.pile.BegunDrop.{BegunDrop}
use Rattle.chip_fire.specs.declared.pile.Pile.{Pile}
use Rattle.chip_fire.specs.declared.avalanche.Room.{Room}
use Rattle.chip_fire.specs.Course.{IsCourse}

-- the sum over n vertices of h at how often each fired between these counts
abbrev pub sum_between : (ℕ → ℕ) → ℕ → List ℕ → List ℕ → ℕ
sum_between h n fired fired' = sum_below n (λ v. h (slice_index fired' v - slice_index fired v))

-- room for plays on n vertices with these counts
pub record IsRoom (n : ℕ) (fired : List ℕ) (r : Room) : Type 0 where
  pub before : r.before.items ≡ fired
  pub support_each : length r.support.items ≡ n
  pub list_room : 2 * n ≤ length r.list.items
  pub row : r.row ≤ n

-- such room between drops: its counts are these if it is said to be current
pub record KeepsRoom (n : ℕ) (fired : List ℕ) (r : Room) : Type 0 where
  pub before_each : length r.before.items ≡ n
  pub room : IsRoom n r.before.items r
  pub current : r.is_current ≡ true → r.before.items ≡ fired

-- a work list may have given up; or no vertex is legal, and the first n of the support are all that fired
abbrev pub IsWorkedOff : Multigraph → (chips fired : List ℕ) → Room → Option ℕ → Type 0
IsWorkedOff G chips fired r worked = IfSome worked (λ n. (n ≤ length r.support.items) × IsStable G (slice_index chips)
    × HasSupport G.vertices r.before.items fired (take n r.support.items))

-- the play of the game with all chips that were dropped has reached these chips and counts, and has ended within the
-- limit
pub record IsPile (p : Pile) : Type 0 where
  pub game : IsGame p.game
  pub begun : IsBegun p.game p.chips.items p.fired.items
  pub at_rest : IsAtRest p.game p.chips.items p.fired.items
  pub room : KeepsRoom p.game.graph.vertices p.fired.items p.room
  pub course : IsCourse p.game p.chips.items p.fired.items p.course

-- the play of these drops on the game, which begins at x and the counts of the room, has reached these chips and counts
pub record IsBegunDrop (g : ChipGame) (ds : List (ℕ × ℕ)) (x : ℕ → ℕ) (d : BegunDrop) : Type 0 where
  pub adds : HasMore g ds d.pile.game
  pub game : IsGame d.pile.game
  pub led : LeadsTo d.pile.game.graph (slice_index d.pile.game.start) (slice_index d.pile.room.before.items) x
  pub arrived : d.arrived ≡ x d.pile.game.graph.sink
  pub begun : IsBegun d.pile.game d.pile.chips.items d.pile.fired.items
  pub before_each : length d.pile.room.before.items ≡ d.pile.game.graph.vertices
  pub room : IsRoom d.pile.game.graph.vertices d.pile.room.before.items d.pile.room
  pub worked : IsWorkedOff d.pile.game.graph d.pile.chips.items d.pile.fired.items d.pile.room d.worked
