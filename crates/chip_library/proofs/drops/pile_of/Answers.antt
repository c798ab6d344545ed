use Rattle.std.proofs.Common.{◌≡◌, ◌<◌, ◌-◌, List, ℕ, length, slice_index, refl, sym, subst, arith, rules, inr}
use Rattle.std.proofs.lemmas.Grind.{common_steps}
use Rattle.chip_graph.specs.ChipGame.{ChipGame}
use Rattle.chip_sequence.specs.Firing.{IsStable}
use Rattle.chip_library.specs.declared.fault.CallFault.TheVariants.{Stopped}
use Rattle.chip_library.specs.Drops.{IsNoPile, BeginsPile}
use Rattle.chip_library.proofs.DropLemmas.{stopped_there, outcome_ends, some_stopped, none_stopped}
use Rattle.chip_library.proofs.drops.pile_of.Goals as goal

pub returns-then-not-is_empty : goal.returns-then-not-is_empty
returns-then-not-is_empty c =
    let (is, is_game) = c.in_ok-game.ensures in
    let played = c.in_ok-outcome.ensures.played in
    let some : 0 < length c.in_ok-outcome.outcome.over.items = first_of (search rules, grind (arith, common_steps)) in
    subst (λ (g : ChipGame). IsNoPile g (Stopped 0)) is
    (inr (inr (is_game, refl, stopped_there _ _ (outcome_ends _ _ played) (some_stopped _ _ played some))))

pub returns : goal.returns
returns c =
    let (is, is_game) = c.in_ok-game.ensures in
    let played = c.in_ok-outcome.ensures.played in
    let none : length c.in_ok-outcome.outcome.over.items ≡ 0 = search rules in
    let few = is_game.few_chips in
    let total = c.total-room.ensures.value in
    let chips = c.in_ok-new.ensures.chips in
    subst (λ (g : ChipGame). BeginsPile g c.in_ok-new.field-0 (1099511627776 - c.total-room.result)) is (record {
      is_game = is_game;
      same_game = c.in_ok-new.ensures.game;
      pile = c.in_ok-new.ensures.pile;
      stable = subst (λ (l : List ℕ). IsStable c.in_ok-game.game.graph (slice_index l)) (sym chips) (none_stopped _ _ played none);
      played = (c.in_ok-outcome.outcome, played, chips);
      full = omega arith;
    })
