-- Serves Batch.antt.
-- The rows of games, one after another.
use Rattle.std.proofs.Common.{ℕ, ◌+◌, ◌<◌, List, [], ◌∷◌, ◌++◌, length, refl, sym, ◌∙◌, arith}
use Rattle.std.proofs.Common.{length-append, zero-mul}
use Rattle.std.proofs.lemmas.List.{get_or_append_left, get_or_push, length_push}
use borrow.Author.Count.{below_more}
use Rattle.chip_graph.specs.Multigraph.{Multigraph}
use Rattle.chip_graph.specs.ChipGame.{IsGame}
use Rattle.chip_sequence.specs.Play.{IsPlayed}
use Rattle.chip_sequence.specs.declared.outcome.Outcome.{Outcome}
use Rattle.chip_recurrent.proofs.RowLemmas.{row_front, row_next}
use Rattle.chip_library.specs.Batch.{game_at, Games, ArePlayed}

-- no game was played
pub played_none : (G : Multigraph) (limit : ℕ) (chips : List ℕ)
    → ArePlayed G limit chips 0 (record { chips = []; fired = []; stopped = [] })
played_none G limit chips = record {
  chips_each = sym (zero-mul G.vertices);
  fired_each = sym (zero-mul G.vertices);
  stopped_each = refl;
  each = λ i l. absurd (omega arith);
}

-- one more game that was played
pub played_more : (G : Multigraph) (limit : ℕ) (chips : List ℕ) (k : ℕ) (ends : Games) → ArePlayed G limit chips k ends
    → IsGame (game_at G limit chips k) → (o : Outcome) → IsPlayed (game_at G limit chips k) o
    → ArePlayed G limit chips (k + 1) (record {
      chips = ends.chips ++ o.chips.items;
      fired = ends.fired ++ o.fired.items;
      stopped = ends.stopped ++ length o.over.items ∷ [];
    })
played_more G limit chips k ends so_far is_game o played =
    let n : ℕ = G.vertices in
    let chips_long = length-append ends.chips o.chips.items in
    let fired_long = length-append ends.fired o.fired.items in
    let here = played.chips_each in
    let here' = played.fired_each in
    let was = so_far.chips_each in
    let was' = so_far.fired_each in
    let was'' = so_far.stopped_each in
    record {
      chips_each = omega arith;
      fired_each = omega arith;
      stopped_each = omega (arith, length_push ends.stopped (length o.over.items));
      each = below_more _ k
          (λ i before. let one = so_far.each i before in let (o', played', its_chips, its_fired, its_stopped) = one.outcome in
          record {
            is_game = one.is_game;
            outcome = (
              o',
              played',
              row_front n k ends.chips o.chips.items was i before ∙ its_chips,
              row_front n k ends.fired o.fired.items was' i before ∙ its_fired,
              get_or_append_left ends.stopped _ 0 i (omega arith) ∙ its_stopped,
            );
          })
          (record {
            is_game = is_game;
            outcome = (
              o,
              played,
              row_next n k ends.chips o.chips.items was here,
              row_next n k ends.fired o.fired.items was' here',
              get_or_push ends.stopped _ 0 k was'',
            );
          });
    }
