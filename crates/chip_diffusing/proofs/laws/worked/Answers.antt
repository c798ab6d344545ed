use Rattle.std.proofs.Common.{◌≡◌, ℕ, zero, suc, ◌<◌, ◌≤◌, refl, arith, [], ◌∷◌, Some, cond, eqb, rules}
use Rattle.std.proofs.lemmas.Bool.Decides.{nat_tests}
use Rattle.chip_diffusing.specs.Computation.{World, Ack, Settle}
use Rattle.chip_diffusing.specs.Ending.{HasMoment, Goes}
use Rattle.chip_diffusing.specs.Worked.{pair, at_rest, acknowledged}
use Rattle.chip_diffusing.proofs.WorkedLemmas.{opening, opens, last_steps, leads_to_work, whole_run}
use Rattle.chip_diffusing.proofs.laws.worked.Goals as goal

pub returns-clause-at_work : goal.returns-clause-at_work
returns-clause-at_work c = (
  search (rules, arith),
  record { first = opening; opens = opens; leads = leads_to_work },
  search (rules, arith, nat_tests),
  refl,
  refl,
  (λ z. search (rules, arith)),
)

pub returns-clause-three_advance : goal.returns-clause-three_advance
unfolding whole_run leads_to_work
returns-clause-three_advance c =
    ((whole_run, refl), refl, record { got = refl; acked = refl; settled = refl })

pub returns-clause-to_the_end : goal.returns-clause-to_the_end
returns-clause-to_the_end c = (
  whole_run,
  search (rules, arith, nat_tests),
  (λ z. search (rules, arith)),
  refl,
  search rules,
  refl,
)

turn : (w : World) (p : ℕ) → p < 2 → (p ≡ 1 → ⊥) → Goes pair w acknowledged → HasMoment pair w acknowledged p
turn w zero l other goes = record {
  moment = acknowledged;
  before = goes;
  after = ([], refl);
  heard = λ e i. absurd (omega arith);
  given = λ e i. grind (arith, nat_tests);
}
turn w (suc p) l other goes = absurd (other (let z : suc p ≡ 1 = omega arith in z))

pub returns-clause-in_two_rounds : goal.returns-clause-in_two_rounds
returns-clause-in_two_rounds c = (
  search (rules, arith, nat_tests),
  record { level = λ p. cond (eqb p 0) 1 0; below = below },
  (
    acknowledged,
    (
      at_rest,
      refl,
      record {
        goes = (Ack 0 1 ∷ [], (at_rest, refl, last_steps.1));
        turns = λ p l other. turn at_rest p l other (Ack 0 1 ∷ [], (at_rest, refl, last_steps.1));
      },
    ),
    record { goes = ([], refl); turns = λ p l other. turn acknowledged p l other ([], refl) },
  ),
  (Settle 0 1 ∷ [], (acknowledged, refl, last_steps.2)),
  refl,
)
  where
    below : (p : ℕ) → p < 2 → (e : ℕ) → (at_rest p).books.parent ≡ Some e
        → (cond (eqb 1 0) 1 0 < cond (eqb p 0) 1 0) × (cond (eqb p 0) 1 0 ≤ 1)
    below zero l e at = (omega arith, omega arith)
    below (suc zero) l e at = absurd (cc)
    below (suc (suc p)) l e at = absurd (omega arith)
