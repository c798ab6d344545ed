-- Serves Ending.antt, Laws.antt. Each message sent adds three to what is left to do on all edges, and each event that
-- advances takes one of it.
use Rattle.std.proofs.Common.{◌≡◌, ℕ, zero, suc, ◌+◌, ◌-◌, ◌*◌, ◌<◌, ◌≤◌, cond, [], ◌∷◌, ap}
use Rattle.std.proofs.Common.{refl, arith, ⊎_elim}
use Rattle.std.specs.List.{count_by}
use Rattle.std.proofs.lemmas.List.Sums.{sum_by-cons}
use Rattle.std.proofs.lemmas.Bool.Decides.{nat_tests}
use Rattle.chip_diffusing.specs.Network.{Network, IsNetwork}
use Rattle.chip_diffusing.specs.Computation.{World, Event, Send, Get, Ack, Settle, Work, Log, Happens, Leads}
use Rattle.chip_diffusing.specs.Computation.{sent_on, got_on, acked_on, settled_on}
use Rattle.chip_diffusing.specs.Ending.{sum_to, advances, advancing, is_send}
use Rattle.chip_diffusing.specs.Laws.{NoWasteCloses}
use Rattle.chip_diffusing.proofs.EdgesLemmas.{counted, sum_moved}
use Rattle.chip_diffusing.proofs.KeptLemmas.{IsKept, acked_most, opens_kept, kept_after, kept_on}
use Rattle.chip_diffusing.proofs.DueLemmas.{due_or_closed}

-- a sum of nothing
zero_sum : (n : ℕ) (f : ℕ → ℕ) → ((i : ℕ) → i < n → f i ≡ 0) → sum_to n f ≡ 0
zero_sum zero f none = refl
zero_sum (suc n) f none = omega (arith, none n (omega arith), zero_sum n f (λ i l. none i (omega arith)))

-- the edge of an event
abbrev edge_of : Event → ℕ
edge_of (Send e) = e
edge_of (Get e) = e
edge_of (Ack e n) = e
edge_of (Settle e word) = e
edge_of (Work p) = 0

module _ (net : Network) (is : IsNetwork net) where
  -- what is left to do of the messages of an edge
  abbrev to_do : World → ℕ → ℕ
  to_do w e = (sent_on net w e - got_on net w e) + (sent_on net w e - acked_on net w e) + (sent_on net w e - settled_on net w e)

  -- an event that advances takes one from it in all, and a message sent adds three
  one_event : (old : World) → IsKept net old → (new : World) (x : Event) → Happens net old x new
      → sum_to net.edges (to_do new) + cond (advances net old x) 1 0
      ≤ sum_to net.edges (to_do old) + 3 * cond (is_send x) 1 0
  one_event old kept new x step =
      let after = kept_after net is old kept new x step in
      let moved = sum_moved net.edges (to_do old) (to_do new) (edge_of x) (cond (advances net old x) 1 0)
      (3 * cond (is_send x) 1 0) (λ i l. let most = acked_most net is new after i l in
      grind (arith, nat_tests, counted net old new x step i, after.got i l, after.heard i l, most)) in
      grind (arith, nat_tests, step.may)

  all_events : (first : World) → IsKept net first → (log : Log) (w : World) (way : Leads net first log w)
      → sum_to net.edges (to_do w) + advancing net first log w way ≤ sum_to net.edges (to_do first) + 3 * count_by is_send log
  all_events first kept [] w way = let a = ap (λ (v : World). sum_to net.edges (to_do v)) way in omega arith
  all_events first kept (x ∷ log) w (v, way, step) = omega (
    arith,
    all_events first kept log v way,
    one_event v (kept_on net is first kept log v way) w x step,
    sum_by-cons (λ (y : Event). cond (is_send y) 1 0) x log,
  )

pub no_waste : NoWasteCloses
no_waste net is log w legal = (
  omega (
    arith,
    all_events net is legal.first (opens_kept net is legal.first legal.opens) log w legal.leads,
    zero_sum net.edges (to_do net is legal.first)
        (λ e l. omega (arith, (legal.opens (net.tail e) (is.tails e l)).fresh.outs.messages e)),
  ),
  λ rest none. ⊎_elim (λ due. grind (arith, nat_tests, none due.0 due.1.0)) (λ closed. closed)
      (due_or_closed net is log w legal (record {
        delivered = λ e l. let n = none (Get e) in grind (arith, nat_tests);
        passive = rest;
      })),
)
