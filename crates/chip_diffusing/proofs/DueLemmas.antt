-- Serves Ending.antt, Laws.antt. Once it is over, an acknowledgement or a settle is due until the root is closed, and
-- their number is bounded.
use Rattle.std.proofs.Common.{◌≡◌, ◌⊎◌, ℕ, zero, suc, ◌+◌, ◌-◌, ◌<◌, ◌≤◌, Bool, true, false, [], ◌∷◌, ◌++◌}
use Rattle.std.proofs.Common.{refl, ap, ◌∙◌, subst, arith, inl, inr, ⊎_elim, length, cond}
use Rattle.std.proofs.lemmas.Bool.Decides.{nat_tests}
use mathlib.Core.Logic.{dite}
use native.Mathlib.Decide.{ℕ_discrete}
use Rattle.chip_detect.specs.Books.{owed, all_owed, deficit}
use Rattle.chip_detect.specs.Acknowledging.{may_ack}
use Rattle.chip_detect.proofs.AllowedLemmas.{within_owed}
use Rattle.chip_diffusing.specs.Network.{Network, IsNetwork}
use Rattle.chip_diffusing.specs.Computation.{World, Event, Get, Ack, Settle, Log, May, Happens, Leads}
use Rattle.chip_diffusing.specs.Computation.{IsLegalLog, IsQuiescent, HasClosedRoot, sent_on, got_on, acked_on, settled_on}
use Rattle.chip_diffusing.specs.Ending.{HasMomentRounds, MayTell, left, LeadsDue}
use Rattle.chip_diffusing.specs.Laws.{NeverStuck}
use Rattle.chip_diffusing.proofs.EdgesLemmas.{counted, less_sum}
use Rattle.chip_diffusing.proofs.KeptLemmas.{IsKept, acked_most, legal_kept}
use Rattle.chip_diffusing.proofs.OrderLemmas.{detection_order}
use Rattle.chip_diffusing.proofs.DepthLemmas.{depth_closes, depth_is_counted}
use Rattle.chip_diffusing.proofs.QuiescentLemmas.{IsLater, one_later, later, go_on}

-- ---- no process has to acknowledge or to settle

module _ (net : Network) (is : IsNetwork net) where
  pub record Quiet (w : World) : Type 0 where
    pub heard : (e : ℕ) → e < net.edges → acked_on net w e ≤ settled_on net w e
    pub given : (e : ℕ) → e < net.edges → may_ack (w (net.head e)).books e (w (net.head e)).passive ≡ 0

  -- each process has its moment in this world, and so the root is closed
  module _ (w : World) (quiet : Quiet w) where
    stays : (n : ℕ) → HasMomentRounds net n w w
    stays zero = refl
    stays (suc n) = (
      w,
      stays n,
      record {
        goes = ([], refl);
        turns = λ p l other. record {
          moment = w;
          before = ([], refl);
          after = ([], refl);
          heard = λ e i. quiet.heard e i.0;
          given = λ e i. subst (λ (q : ℕ). may_ack (w q).books e (w q).passive ≡ 0) i.1 (quiet.given e i.0);
        };
      },
    )

    pub quiet_closes : (log : Log) → IsLegalLog net log w → IsQuiescent net w → HasClosedRoot net w
    quiet_closes log legal quiescent =
        let o = detection_order net is log w legal in
        let deep = depth_is_counted net is log w legal o.0 o.1 in
        depth_closes net is log w legal quiescent (length o.0) deep w w (stays (suc (length o.0))) ([], refl)
        (λ e i. quiet.heard e i.0)

  -- the first number that is above 0, or none is
  find : (n : ℕ) (f : ℕ → ℕ) → ((k : ℕ) × (k < n) × (0 < f k)) ⊎ ((k : ℕ) → k < n → f k ≡ 0)
  find zero f = inr (λ k l. absurd (omega arith))
  find (suc n) f = ⊎_elim (λ some. let l = some.1 in inl (some.0, omega arith, some.2))
      (λ none. dite (ℕ_discrete (f n) 0)
      (λ off. inr (λ k l. dite (ℕ_discrete k n) (λ same. ap f same ∙ off) (λ other. none k (omega arith))))
      (λ on. inl (n, omega arith, omega arith)))
      (find n f)

  pub due_or_closed : (log : Log) (w : World) → IsLegalLog net log w → IsQuiescent net w
      → ((x : Event) × MayTell net w x) ⊎ HasClosedRoot net w
  due_or_closed log w legal quiescent = let kept = legal_kept net is log w legal in ⊎_elim
      (λ t. let more = t.2 in let least = kept.heard t.0 t.1 in
      inl (Settle t.0 (acked_on net w t.0), ((t.1, least, omega arith), omega arith)))
      (λ no_settle. ⊎_elim
      (λ t. inl (Ack t.0 (may_ack (w (net.head t.0)).books t.0 (w (net.head t.0)).passive), ((t.1, omega arith), t.2)))
      (λ no_ack. inr (quiet_closes w
      record { heard = λ e l. (let a = no_settle e l in omega arith); given = no_ack } log legal quiescent))
      (find net.edges (λ e. may_ack (w (net.head e)).books e (w (net.head e)).passive)))
      (find net.edges (λ e. acked_on net w e - settled_on net w e))

  pub not_over_yet : (log : Log) (w : World) → IsLegalLog net log w → (HasClosedRoot net w → ⊥)
      → ((p : ℕ) × (p < net.parts) × ((w p).passive ≡ false)) ⊎ ((e : ℕ) × May net w (Get e)) ⊎ ((x : Event) × MayTell net w x)
  not_over_yet log w legal not_closed = ⊎_elim
      (λ t. inl (t.0, t.1, at_work (w t.0).passive t.2))
      (λ all_passive. ⊎_elim
      (λ t. let some = t.2 in inr (inl (t.0, (t.1, omega arith))))
      (λ all_got. ⊎_elim (λ due. inr (inr due)) (λ closed. absurd (not_closed closed))
      (due_or_closed log w legal record { delivered = all_got; passive = λ p l. at_rest (w p).passive (all_passive p l) }))
      (find net.edges (λ e. sent_on net w e - got_on net w e)))
      (find net.parts (λ p. cond (w p).passive 0 1))
    where
      at_work : (b : Bool) → 0 < cond b 0 1 → b ≡ false
      at_work true l = absurd (omega arith)
      at_work false l = refl

      at_rest : (b : Bool) → ◌≡◌ {A = ℕ} (cond b 0 1) 0 → b ≡ true
      at_rest true z = refl
      at_rest false z = absurd (omega arith)

  -- ---- the number left is bounded

  module _ (old : World) (kept : IsKept net old) (quiescent : IsQuiescent net old) (new : World) where
    abbrev at_edge : World → ℕ → ℕ
    at_edge w e = (sent_on net w e - acked_on net w e) + (sent_on net w e - settled_on net w e)

    falls : IsLater net is old new → (e : ℕ) → e < net.edges → at_edge new e < at_edge old e → left net new < left net old
    falls after e l lower = less_sum net.edges (at_edge old) (at_edge new)
        (λ i m. (let a = after.sent (net.tail i) i in let b = after.acked (net.head i) i in
        let c = after.settled (net.tail i) i in omega arith)) e l lower

    due_falls : (x : Event) → MayTell net old x → Happens net old x new → left net new < left net old
    due_falls (Ack e n) due step =
        let b = (old (net.head e)).books in
        let most = within_owed e b.parent (owed b e) (all_owed b) (deficit b) (old (net.head e)).passive in
        falls (one_later net is old kept quiescent new (Ack e n) step) e step.may.0
        (grind (arith, nat_tests, counted net old new (Ack e n) step e, kept.got e step.may.0, step.may.1, due.1))
    due_falls (Settle e word) due step =
        let most = acked_most net is old kept e step.may.0 in
        falls (one_later net is old kept quiescent new (Settle e word) step) e step.may.0
        (grind (arith, nat_tests, counted net old new (Settle e word) step e, kept.got e step.may.0, step.may.2, due.1))
    due_falls _ due step = absurd due.1

  leads_due : (w : World) (xs : Log) (new : World) → LeadsDue net w xs new → Leads net w xs new
  leads_due w [] new same = same
  leads_due w (x ∷ xs) new (v, way, due, step) = (v, leads_due w xs v way, step)

  few_left : (w : World) → IsKept net w → IsQuiescent net w → (xs : Log) (new : World) → LeadsDue net w xs new
      → length xs + left net new ≤ left net w
  few_left w kept quiescent [] new same = let a = ap (left net) same in omega arith
  few_left w kept quiescent (x ∷ xs) new (v, way, due, step) =
      let a = later net is w kept quiescent xs v (leads_due w xs v way) in
      let b = few_left w kept quiescent xs v way in
      let c = due_falls v a.kept a.quiescent new x due step in
      omega arith

  pub few_are_left : (log : Log) (w : World) → IsLegalLog net log w → IsQuiescent net w → (xs : Log) (new : World)
      → LeadsDue net w xs new → (length xs ≤ left net w) × (((x : Event) → MayTell net new x → ⊥) → HasClosedRoot net new)
  few_are_left log w legal quiescent xs new way =
      let kept = legal_kept net is log w legal in
      let plain = leads_due w xs new way in
      let a = few_left w kept quiescent xs new way in
      let b = later net is w kept quiescent xs new plain in (
        omega arith,
        λ none. ⊎_elim (λ due. absurd (none due.0 due.1)) (λ closed. closed)
            (due_or_closed (xs ++ log) new (go_on net is log w legal xs new plain) b.quiescent),
      )

pub never_stuck : NeverStuck
never_stuck net is log w legal quiescent not_closed = ⊎_elim (λ due. due) (λ closed. absurd (not_closed closed))
    (due_or_closed net is log w legal quiescent)
