-- Serves Recurrents.antt.
-- The burning test of one configuration, and of one row after another.
use Rattle.std.proofs.Common.{◌↔◌, Bool, true, false, IsTrue, rules, ◌++◌}
use Rattle.std.proofs.lemmas.List.{get_or_append_left, get_or_push, length_push}
use mir.Val.{bool_byte}
use borrow.Author.Count.{below_more}
use Rattle.chip_recurrent.proofs.Names.{◌≡◌, ℕ, ◌+◌, ◌≤◌, List, [], ◌∷◌, refl, arith}
use Rattle.chip_recurrent.proofs.Names.{Multigraph, IsGraph, IsStable, AgreeOffSink, IsBurningScript, agree, then_fires}
use Rattle.chip_recurrent.proofs.Names.{one_end, burning_test}
use Rattle.chip_recurrent.specs.Stabilizations.{StabilizesWithin}
use Rattle.chip_recurrent.specs.Recurrents.{burning_sum, IsTested, AreTestedBy, configuration}

-- what is not stable is not recurrent
pub not_stable : (G : Multigraph) (b x : ℕ → ℕ) → (IsStable G x → ⊥) → IsTested G b x 0
not_stable G b x unstable = record {
  low = omega arith;
  recurrent = ((λ e. absurd (omega arith)), λ rec. absurd (unstable rec.stable));
  within = λ rests. absurd (unstable rests);
}

-- a stable configuration is recurrent exactly if it burns off
pub tested : (G : Multigraph) → IsGraph G → (s b x c : ℕ → ℕ) → IsBurningScript G s b → IsStable G x
    → StabilizesWithin G (burning_sum b x) c → (same : Bool) → (IsTrue same ↔ AgreeOffSink G c x) → IsTested G b x (bool_byte same)
tested G good s b x c script rests within same is =
    let test = burning_test G good s b script x rests in record {
      low = flag_low same;
      recurrent = (
        (λ one. test.1 (record { fires_to = then_fires G within.end.fires_to (agree G (is.0 (flag_true same one))); stable = rests })),
        λ rec. true_flag same (is.1 (one_end G good within.end (test.0 rec))),
      );
      within = λ _. (c, within);
    }
  where
    flag_low : (b : Bool) → bool_byte b ≤ 1
    flag_low true = omega arith
    flag_low false = omega arith

    flag_true : (b : Bool) → ◌≡◌ {A = ℕ} (bool_byte b) 1 → IsTrue b
    flag_true true e = search rules
    flag_true false e = absurd (omega arith)

    true_flag : (b : Bool) → IsTrue b → ◌≡◌ {A = ℕ} (bool_byte b) 1
    true_flag true is = refl
    true_flag false is = absurd cc

-- ---- one row after another

module _ (G : Multigraph) (b : ℕ → ℕ) (chips : List ℕ) where
  pub tested_none : AreTestedBy G b chips 0 []
  tested_none = record { flags_each = refl; each = λ i l. absurd (omega arith) }

  pub tested_more : (k : ℕ) (flags : List ℕ) (flag : ℕ) → AreTestedBy G b chips k flags → IsTested G b (configuration G chips k) flag
      → AreTestedBy G b chips (k + 1) (flags ++ flag ∷ [])
  tested_more k flags flag is here = record {
    flags_each = omega (arith, length_push flags flag, is.flags_each);
    each = below_more _ k (λ i l. rw (get_or_append_left flags (flag ∷ []) 0 i (omega (arith, l, is.flags_each))) (is.each i l))
        (rw (get_or_push flags flag 0 k is.flags_each) here);
  }
