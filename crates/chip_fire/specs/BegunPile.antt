-- A pile whose play may go on.
use Rattle.std.specs.Prelude.{◌≡◌, ℕ, ◌-◌, ◌<◌, ◌^◌, Bool, false, slice_index}
use Rattle.std.specs.Bool.{OnTrue, OnFalse}
use Rattle.chip_graph.specs.ChipGame.{ChipGame, IsGame}
use Rattle.chip_fire.specs.Rounds.{IsBegun, OnlyRise, firings_left}
use Rattle.chip_fire.specs.Course.{IsCourse}
use Rattle.chip_fire.specs.declared.pile.Pile.{Pile}
use Rattle.chip_fire.specs.Pile.{KeepsRoom, IsPile}

-- the play of the game with all chips that were dropped has reached these chips and counts, and may go on
pub record IsBegunPile (p : Pile) : Type 0 where
  pub game : IsGame p.game
  pub begun : IsBegun p.game p.chips.items p.fired.items
  pub room : KeepsRoom p.game.graph.vertices p.fired.items p.room
  pub course : IsCourse p.game p.chips.items p.fired.items p.course

-- no vertex of the game has fired on the pile
pub record IsAtStart (g : ChipGame) (p : Pile) : Type 0 where
  pub same_game : p.game ≡ g
  pub chips : p.chips.items ≡ g.start
  pub unfired : (v : ℕ) → slice_index p.fired.items v ≡ 0

-- the play of the game has gone on from p to p' by these visits: it has ended within the limit, or some vertex fired.
-- 2^64 - 1 visits end it
pub record PlaysOn (p p' : Pile) (visits : ℕ) (goes_on : Bool) : Type 0 where
  pub same_game : p'.game ≡ p.game
  pub begun : IsBegunPile p'
  pub rises : OnlyRise p.fired.items p'.fired.items
  pub some_fired : OnTrue goes_on
      (firings_left p.game.graph p.game.limit p'.fired.items < firings_left p.game.graph p.game.limit p.fired.items)
  pub ended : OnFalse goes_on (IsPile p')
  pub whole : visits ≡ 2 ^ 64 - 1 → goes_on ≡ false
