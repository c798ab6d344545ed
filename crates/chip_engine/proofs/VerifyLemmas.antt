-- Serves VerifyCommand.antt.
-- Whether a report is that of a game.
use Rattle.std.proofs.Common.{◌≡◌, ◌↔◌, Bool, true, false, refl}
use mathlib.Core.Bool.{beq}

-- two tests agree if what they test for does
pub alike : (a b : Bool) (P Q : Type 0) → (a ≡ true) ↔ P → (b ≡ true) ↔ Q → (beq a b ≡ true) ↔ (P ↔ Q)
alike true true P Q p q = (λ _. (λ _. q.0 refl, λ _. p.0 refl), λ _. refl)
alike true false P Q p q = (λ e. cc, λ same. q.1 (same.0 (p.0 refl)))
alike false true P Q p q = (λ e. cc, λ same. p.1 (same.1 (q.0 refl)))
alike false false P Q p q = (λ _. (λ x. absurd (cc (p.1 x)), λ y. absurd (cc (q.1 y))), λ _. refl)
