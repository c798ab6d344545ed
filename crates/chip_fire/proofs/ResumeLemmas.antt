-- Serves Resume.antt of chip_sequence.
-- A stage that goes on from an earlier one.
use Rattle.std.proofs.Common.{◌≡◌, ℕ, ◌+◌, slice_index, sym, ap, subst, arith, ◌<◌, ◌≤◌, length}
use Rattle.std.proofs.lemmas.List.{get_or_past}
use Rattle.std.proofs.lemmas.List.Elements.{All-from_get_or}
use mathlib.Core.Logic.{dite}
use native.Mathlib.Decide.{dec_lt}
use Rattle.chip_graph.specs.Multigraph.{Multigraph}
use Rattle.chip_graph.specs.ChipGame.{IsGame}
use Rattle.chip_sequence.specs.declared.resumed.Resumed.{Resumed}
use Rattle.chip_sequence.specs.Outcomes.{IsOutcome}
use Rattle.chip_sequence.specs.Play.{IsPlayed}
use Rattle.chip_sequence.specs.Stages.{IsResumed, LeadsTo, IsPlayFrom, fired_in_all, max_prior}
use Rattle.chip_sequence.specs.Resume.{GoesOn, game_from}
use Rattle.chip_sequence.proofs.StageLemmas.{leads_both, played_is_stage}

module _ (G : Multigraph) (earlier r : Resumed) (limit : ℕ) (fits : IsResumed earlier)
    (same_length : length r.prior.items ≡ length earlier.prior.items)
    (sums : (v : ℕ) → v < length r.prior.items
    → (slice_index r.prior.items v ≡ fired_in_all earlier v) × (fired_in_all earlier v ≤ max_prior)) where
  -- what was fired before is what was fired in all so far, of whatever number
  before : (v : ℕ) → slice_index r.prior.items v ≡ fired_in_all earlier v
  before v = dite (dec_lt v (length r.prior.items))
      (λ l. (sums v l).0)
      (λ nl.
      let a : slice_index r.prior.items v ≡ 0 = get_or_past r.prior.items v 0 (omega arith) in
      let b : slice_index earlier.prior.items v ≡ 0 = get_or_past earlier.prior.items v 0 (omega arith) in
      let c : slice_index earlier.outcome.fired.items v ≡ 0 =
      get_or_past earlier.outcome.fired.items v 0 (let d = fits.prior_each in omega arith) in
      omega arith)

  -- the stage that was played from there goes on
  pub goes_on : IsGame (game_from G earlier limit) → IsPlayed (game_from G earlier limit) r.outcome
      → IsOutcome r.outcome → GoesOn G earlier limit r
  goes_on game played outcome = record {
    is_game = game;
    played = played;
    prior = before;
    in_range = record {
      outcome_fits = outcome;
      prior_each = (let a = fits.prior_each in let b = fits.outcome_fits.same_length in let d = game.start_fits in
          let e = played.fired_each in omega arith);
      few_before = All-from_get_or (λ n. n ≤ max_prior) r.prior.items 0
          (λ v l. let a = (sums v l).0 in let b = (sums v l).1 in omega arith);
    };
  }

  -- and leads, with what was fired before, from wherever the earlier ones led from
  pub still_leads : GoesOn G earlier limit r → (x : ℕ → ℕ) → IsPlayFrom G x earlier → IsPlayFrom G x r
  still_leads on x earlier_leads =
      subst (λ (f : ℕ → ℕ). LeadsTo G x f (slice_index r.outcome.chips.items))
      (λ i v. (ap (λ (n : ℕ). n + slice_index r.outcome.fired.items v) (sym (before v))) i)
      (leads_both G x (fired_in_all earlier) (slice_index earlier.outcome.chips.items)
      (slice_index r.outcome.fired.items) (slice_index r.outcome.chips.items)
      earlier_leads (played_is_stage (game_from G earlier limit) r.outcome on.played))
