-- Serves Computation.antt, Laws.antt. What may still happen once no message is in transit and every process is passive.
use Rattle.std.proofs.Common.{◌≡◌, ℕ, ◌≤◌, true, [], ◌∷◌, ◌++◌}
use Rattle.std.proofs.Common.{Some, refl, sym, ◌∙◌, subst, arith, true≢false}
use Rattle.chip_detect.specs.Books.{got_of, acked_of, sent_of, settled_of, deficit, outstanding, out_edges}
use Rattle.chip_detect.proofs.ChangesLemmas.{open_within_total}
use Rattle.chip_diffusing.specs.Network.{Network, IsNetwork}
use Rattle.chip_diffusing.specs.Computation.{PartState, World, Event, Send, Get, Log, Happens, Leads}
use Rattle.chip_diffusing.specs.Computation.{process_of, IsLegalLog, IsQuiescent}
use Rattle.chip_diffusing.specs.Laws.{ClosedForGood}
use Rattle.chip_diffusing.proofs.KeptLemmas.{IsKept, grows, each, was_parent, kept_after, legal_kept, sum_none}
use Rattle.chip_diffusing.proofs.OrderLemmas.{closed_quiescent}

module _ (net : Network) (is : IsNetwork net) where
  -- a later world: no process sent or got any more, and a parent may be gone
  pub record IsLater (old new : World) : Type 0 where
    pub kept : IsKept net new
    pub quiescent : IsQuiescent net new
    pub sent : (p e : ℕ) → sent_of (new p).books e ≡ sent_of (old p).books e
    pub got : (p e : ℕ) → got_of (new p).books e ≡ got_of (old p).books e
    pub acked : (p e : ℕ) → acked_of (old p).books e ≤ acked_of (new p).books e
    pub settled : (p e : ℕ) → settled_of (old p).books e ≤ settled_of (new p).books e
    pub parent : (p e : ℕ) → (new p).books.parent ≡ Some e → (old p).books.parent ≡ Some e

  module _ (old : World) (kept : IsKept net old) (quiescent : IsQuiescent net old) (new : World) where
    no_send : (e : ℕ) → Happens net old (Send e) new → ⊥
    no_send e step = true≢false (sym (quiescent.passive (net.tail e) (is.tails e step.may.0)) ∙ step.may.1)

    no_get : (e : ℕ) → Happens net old (Get e) new → ⊥
    no_get e step = let a = quiescent.delivered e step.may.0 in let b = step.may.1 in absurd (omega arith)

    abbrev IsStill : PartState → PartState → Type 0
    IsStill s t = (e : ℕ) → (sent_of t.books e ≡ sent_of s.books e) × (got_of t.books e ≡ got_of s.books e)

    still : (x : Event) → Happens net old x new → IsStill (old (process_of net x)) (new (process_of net x))
    still (Send i) step e = absurd (no_send i step)
    still (Get i) step e = absurd (no_get i step)
    still _ step e = grind (arith, step.notes)

    all_still : (x : Event) → Happens net old x new → (p : ℕ) → IsStill (old p) (new p)
    all_still x step = each net is old kept new IsStill x step (λ s e. (refl, refl)) (still x step)

    mine_passive : (x : Event) → Happens net old x new → (old (process_of net x)).passive ≡ true
        → (new (process_of net x)).passive ≡ true
    mine_passive (Get i) step was = absurd (no_get i step)
    mine_passive _ step was = step.wakes was

    pub one_later : (x : Event) → Happens net old x new → IsLater old new
    one_later x step = record {
      kept = kept_after net is old kept new x step;
      quiescent = record {
        delivered = λ e l. (let a = (all_still x step (net.tail e) e).0 in
            let b = (all_still x step (net.head e) e).1 in let c = quiescent.delivered e l in omega arith);
        passive = λ p l. each net is old kept new (λ s t. s.passive ≡ true → t.passive ≡ true) x step (λ s z. z)
            (mine_passive x step) p (quiescent.passive p l);
      };
      sent = λ p e. (all_still x step p e).0;
      got = λ p e. (all_still x step p e).1;
      acked = λ p e. (grows net is old kept new x step p).acked e;
      settled = λ p e. (grows net is old kept new x step p).settled e;
      parent = was_parent net is old kept new x step
          (λ e z. no_get e (subst (λ (y : Event). Happens net old y new) z step));
    }

  at_once : (w : World) → IsKept net w → IsQuiescent net w → IsLater w w
  at_once w kept quiescent = record {
    kept = kept;
    quiescent = quiescent;
    sent = λ p e. refl;
    got = λ p e. refl;
    acked = λ p e. omega arith;
    settled = λ p e. omega arith;
    parent = λ p e at. at;
  }

  pub then_later : (a b c : World) → IsLater a b → IsLater b c → IsLater a c
  then_later a b c ab bc = record {
    kept = bc.kept;
    quiescent = bc.quiescent;
    sent = λ p e. bc.sent p e ∙ ab.sent p e;
    got = λ p e. bc.got p e ∙ ab.got p e;
    acked = λ p e. let x = ab.acked p e in let y = bc.acked p e in omega arith;
    settled = λ p e. let x = ab.settled p e in let y = bc.settled p e in omega arith;
    parent = λ p e at. ab.parent p e (bc.parent p e at);
  }

  pub later : (w : World) → IsKept net w → IsQuiescent net w → (xs : Log) (new : World) → Leads net w xs new → IsLater w new
  later w kept quiescent [] new same = subst (IsLater w) same (at_once w kept quiescent)
  later w kept quiescent (x ∷ xs) new (v, way, step) =
      let first = later w kept quiescent xs v way in
      then_later w v new first (one_later v first.kept first.quiescent new x step)

  -- a process that waits for nothing never does
  pub no_deficit_later : (old new : World) → IsLater old new → (p : ℕ) → deficit (old p).books ≡ 0
      → deficit (new p).books ≡ 0
  no_deficit_later old new l p none = sum_none (outstanding (new p).books) (out_edges (new p).books)
      (λ e m. let a = l.sent p e in let b = l.settled p e in let c = open_within_total (old p).books.outs e in omega arith)

  pub leads_on : (a b c : World) (log xs : Log) → Leads net a log b → Leads net b xs c → Leads net a (xs ++ log) c
  leads_on a b c log [] first same = subst (Leads net a log) same first
  leads_on a b c log (x ∷ xs) first (v, way, step) = (v, leads_on a b v log xs first way, step)

  pub go_on : (log : Log) (w : World) → IsLegalLog net log w → (xs : Log) (new : World) → Leads net w xs new
      → IsLegalLog net (xs ++ log) new
  go_on log w legal xs new way = record {
    first = legal.first;
    opens = legal.opens;
    leads = leads_on legal.first w new log xs legal.leads way;
  }

pub closed_for_good : ClosedForGood
closed_for_good net is log w legal closed xs new way =
    let l = later net is w (legal_kept net is log w legal) (closed_quiescent net is log w legal closed) xs new way in (
      record {
        ended = l.quiescent.passive net.root is.root;
        settled = no_deficit_later net is w new l net.root closed.settled;
      },
      l.quiescent,
    )
