-- What a play that goes on in portions keeps from one to the next.
use Rattle.std.specs.Prelude.{ℕ, ◌+◌, ◌*◌, ◌/◌, ◌≤◌, List, [], true, slice_index}
use Rattle.chip_graph.specs.ChipGame.{ChipGame}
use Rattle.chip_sequence.specs.Firing.{IsStable}
use Rattle.chip_fire.specs.Rounds.{IsAtRest}
use Rattle.chip_fire.specs.Search.{FewVisits, places}
use Rattle.chip_fire.specs.declared.course.Course.{Course}
use Rattle.chip_fire.specs.declared.course.Course.TheVariants.{Begins, WorkList, FewChips, Doubles, Searches, Rounds, Ended, Stable}
use Rattle.chip_fire.specs.declared.course.Searching.{Searching}

-- a search beside a play that has reached the counts fired: neither has passed its share by more than a turn
pub record IsSearching (g : ChipGame) (fired : List ℕ) (s : Searching) : Type 0 where
  pub played_few : FewVisits g [] fired 0 (s.alone + s.beside) true
  pub begun : 16 * places g ≤ s.searched
  pub ahead_few : s.ahead ≤ 16384 * places g
  pub search_share : s.searched ≤ s.ahead + 2 * s.alone + s.beside
  pub play_share : s.beside ≤ s.searched + 5 * places g + (s.alone + s.beside) / 4
  pub turn : s.turn_end ≤ s.searched + 4 * places g + (s.alone + s.beside) / 4

-- what a play is at that has reached these chips and counts: the visits that it counts were few, it has ended only if no
-- vertex may fire, and it is stable only if none is legal
abbrev pub IsCourse : ChipGame → (chips fired : List ℕ) → Course → Type 0
IsCourse g chips fired Begins = Unit {0}
IsCourse g chips fired (WorkList left) = Unit {0}
IsCourse g chips fired (FewChips left) = Unit {0}
IsCourse g chips fired (Doubles doubling) = FewVisits g [] fired 0 doubling.visits true
IsCourse g chips fired (Searches boxed) = IsSearching g fired boxed.value
IsCourse g chips fired Rounds = Unit {0}
IsCourse g chips fired Ended = IsAtRest g chips fired
IsCourse g chips fired Stable = IsStable g.graph (slice_index chips)
