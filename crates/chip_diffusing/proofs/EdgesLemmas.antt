-- Serves Computation.antt, Ending.antt.
-- The effect of an event on the counts of an edge, and sums over all edges.
use Rattle.std.proofs.Common.{◌≡◌, ◌≢◌, ◌⊎◌, ℕ, zero, suc, ◌+◌, ◌-◌, ◌<◌, ◌≤◌, cond, eqb, inl, inr, arith}
use Rattle.std.proofs.Common.{rules}
use Rattle.std.specs.Prelude.{nat_lt}
use Rattle.std.proofs.lemmas.Bool.Decides.{nat_tests}
use mathlib.Core.Logic.{dite}
use native.Mathlib.Decide.{ℕ_discrete}
use Rattle.chip_diffusing.specs.Network.{Network}
use Rattle.chip_diffusing.specs.Computation.{World, Event, Send, Get, Ack, Settle, Work, Happens, process_of}
use Rattle.chip_diffusing.specs.Computation.{sent_on, got_on, acked_on, settled_on}
use Rattle.chip_diffusing.specs.Ending.{sum_to}

-- messages sent and got on an edge, acknowledgements given and settled
pub record Counts : Type 0 where
  pub sent : ℕ
  pub got : ℕ
  pub acked : ℕ
  pub settled : ℕ

abbrev pub counts : Network → World → ℕ → Counts
counts net w e = record { sent = sent_on net w e; got = got_on net w e; acked = acked_on net w e; settled = settled_on net w e }

pub record AreEqual (a b : Counts) : Type 0 where
  pub sent : a.sent ≡ b.sent
  pub got : a.got ≡ b.got
  pub acked : a.acked ≡ b.acked
  pub settled : a.settled ≡ b.settled

-- the counts of the edge i after an event
abbrev pub after : Event → ℕ → Counts → Counts
after (Send e) i k = record k { sent = cond (eqb e i) (k.sent + 1) k.sent }
after (Get e) i k = record k { got = cond (eqb e i) (k.got + 1) k.got }
after (Ack e n) i k = record k { acked = cond (eqb e i) (k.acked + n) k.acked }
after (Settle e word) i k = record k { settled = cond (eqb e i) (k.settled + (word - k.settled)) k.settled }
after (Work p) i k = k

module _ (net : Network) (old new : World) where
  -- a process acts or is unchanged
  acts_or_stays : (x : Event) → Happens net old x new → (p : ℕ) → (p ≡ process_of net x) ⊎ ((p ≢ process_of net x) × (new p ≡ old p))
  acts_or_stays x step p = dite (ℕ_discrete p (process_of net x)) (λ z. inl z) (λ n. inr (n, step.others p n))

  pub counted : (x : Event) → Happens net old x new → (i : ℕ) → AreEqual (counts net new i) (after x i (counts net old i))
  counted x step i =
      let t = acts_or_stays x step (net.tail i) in
      let h = acts_or_stays x step (net.head i) in
      search (rules, arith, nat_tests)

-- ---- sums

-- term e loses a and gains at most b, and no other term grows: so it is with the sum
pub sum_moved : (n : ℕ) (f g : ℕ → ℕ) (e a b : ℕ) → ((i : ℕ) → i < n → g i + cond (eqb e i) a 0 ≤ f i + cond (eqb e i) b 0)
    → sum_to n g + cond (nat_lt e n) a 0 ≤ sum_to n f + cond (nat_lt e n) b 0
sum_moved zero f g e a b moved = grind (arith, nat_tests)
sum_moved (suc n) f g e a b moved =
    grind (arith, nat_tests, moved n (omega arith), sum_moved n f g e a b (λ i l. moved i (omega arith)))

pub less_sum : (n : ℕ) (f g : ℕ → ℕ) → ((i : ℕ) → i < n → g i ≤ f i) → (e : ℕ) → e < n → g e < f e
    → sum_to n g < sum_to n f
less_sum n f g less e l lower =
    grind (arith, nat_tests, sum_moved n f g e 1 0 (λ i m. grind (arith, nat_tests, less i m)))
