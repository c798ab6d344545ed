-- Serves BegunPile.antt.
-- A pile whose play has gone on.
use Rattle.std.proofs.Common.{◌≡◌, ℕ, ◌-◌, ◌^◌, Bool, true, false}
use Rattle.chip_graph.specs.ChipGame.{IsGame}
use Rattle.chip_fire.specs.Rounds.{GoesRound}
use Rattle.chip_fire.specs.Pile.{KeepsRoom}
use Rattle.chip_fire.specs.BegunPile.{PlaysOn}
use Rattle.chip_fire.specs.Course.{IsCourse}
use Rattle.chip_fire.specs.declared.pile.Pile.{Pile}

-- by what the play of its game says
pub plays_on : (p p' : Pile) (visits : ℕ) (any : Bool) → p'.game ≡ p.game → IsGame p'.game
    → GoesRound p.game p.fired.items p'.chips.items p'.fired.items any
    → KeepsRoom p'.game.graph.vertices p'.fired.items p'.room → IsCourse p'.game p'.chips.items p'.fired.items p'.course
    → (visits ≡ 2 ^ 64 - 1 → any ≡ false) → PlaysOn p p' visits any
plays_on p p' visits true same game round room course whole = record {
  same_game = same;
  begun = record { game = game; begun = rw same round.begun; room = room; course = course };
  rises = round.rises;
  some_fired = round.some_fired;
  ended = tt;
  whole = whole;
}
plays_on p p' visits false same game round room course whole = record {
  same_game = same;
  begun = record { game = game; begun = rw same round.begun; room = room; course = course };
  rises = round.rises;
  some_fired = tt;
  ended = record {
    game = game;
    begun = rw same round.begun;
    at_rest = rw same round.none_fired;
    room = room;
    course = course;
  };
  whole = whole;
}
