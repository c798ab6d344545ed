-- Serves Ending.antt, Laws.antt. The engaged processes form a tree below the root in every legal log, and what follows
-- if the root is closed.
use Rattle.std.proofs.Common.{◌≡◌, ◌≢◌, ◌⊎◌, ℕ, zero, suc, ◌<◌, ◌≤◌, cond, eqb, Bool, true, List, [], ◌∷◌}
use Rattle.std.proofs.Common.{Option, Some, None, Contains, refl, sym, ap, ◌∙◌, subst, arith, inl, inr, ⊎_elim}
use Rattle.std.proofs.lemmas.Bool.Decides.{nat_tests}
use Rattle.std.proofs.lemmas.List.{get_or_default}
use Rattle.chip_detect.proofs.LookupsLemmas.{absent_or_at}
use mathlib.Core.Logic.{dite}
use native.Mathlib.Decide.{ℕ_discrete}
use Rattle.chip_detect.specs.Books.{Books, in_edges, owed, deficit}
use Rattle.chip_detect.specs.Acknowledging.{or_else}
use Rattle.chip_detect.proofs.ChangesLemmas.{open_within_total}
use Rattle.chip_diffusing.specs.Network.{Network, IsNetwork, IsInto}
use Rattle.chip_diffusing.specs.Computation.{PartState, World, Event, Get, Log, Happens, Leads}
use Rattle.chip_diffusing.specs.Computation.{IsLegalLog, IsQuiescent, HasClosedRoot, sent_on, acked_on, settled_on}
use Rattle.chip_diffusing.specs.Ending.{IsEngagementTree, IsEngagementOrder, IsSettledUp}
use Rattle.chip_diffusing.specs.Laws.{IsOver}
use Rattle.chip_diffusing.proofs.KeptLemmas.{IsKept, acked_most, kept_on, legal_kept}
use Rattle.chip_diffusing.proofs.KeptLemmas.{opens_kept, stays, was_parent}
use Rattle.chip_detect.proofs.ListLemmas.{contains_first, contains_later, contained, none_some, cases_option}

or_else_cases : (o : Option ℕ) (e : ℕ) → (o ≡ None × or_else o e ≡ Some e) ⊎ (or_else o e ≡ o)
or_else_cases None e = inl (refl, refl)
or_else_cases (Some q) e = inr refl

-- an edge on which something is owed is an edge into the process
pub owes_on : (b : Books) (e : ℕ) → 0 < owed b e → Contains (in_edges b) e
owes_on b e some = ⊎_elim
    (λ absent. let none = absent (λ t. t.messages) in absurd (omega arith))
    (λ at. let l = at.1 in (at.0, l, sym (get_or_default (in_edges b) at.0 0 e l) ∙ at.2))
    (absent_or_at b.ins e)

module _ (net : Network) (is : IsNetwork net) where
  -- the tail of an edge with something outstanding is the root or engaged
  pub busy_tail : (w : World) → IsKept net w → (e : ℕ) → e < net.edges → (w (net.tail e)).books.parent ≡ None
      → acked_on net w e < sent_on net w e → net.tail e ≡ net.root
  busy_tail w kept e l none some = dite (ℕ_discrete (net.tail e) net.root) (λ z. z)
      (λ other. let rest = kept.neutral (net.tail e) (is.tails e l) other none in
      let d = rest.1 in
      let a = open_within_total (w (net.tail e)).books.outs e in
      let b = kept.heard e l in
      absurd (omega arith))

  -- what is known of the parent edge of a process
  pub parent_edge : (w : World) → IsKept net w → (p e : ℕ) → p < net.parts → (w p).books.parent ≡ Some e
      → IsInto net p e × (0 < owed (w p).books e) × (acked_on net w e < sent_on net w e)
  parent_edge w kept p e l parent =
      let owes = (kept.sound p l).engaged e parent in
      let into = (kept.ins p l).none_else e (owes_on (w p).books e owes) in
      let here : 0 < owed (w (net.head e)).books e = subst (λ (q : ℕ). 0 < owed (w q).books e) (sym into.1) owes in
      let all = kept.got e into.0 in
      (into, owes, omega arith)

  -- ---- ranks: each engaged process has a higher one than the tail of its parent edge

  abbrev parents : World → ℕ → Option ℕ
  parents w p = (w p).books.parent

  abbrev AreRanks : World → (ℕ → ℕ) → Type 0
  AreRanks w rank = (p e : ℕ) → p < net.parts → parents w p ≡ Some e → rank (net.tail e) < rank p

  abbrev Ranked : World → Type 0
  Ranked w = (rank : ℕ → ℕ) × AreRanks w rank

  module _ (old : World) (kept : IsKept net old) (new : World) where
    none_engaged : (x : Event) → Happens net old x new → ((e : ℕ) → x ≡ Get e → ⊥) → Ranked old → Ranked new
    none_engaged x step other r = (r.0, λ p e l at. r.1 p e l (was_parent net is old kept new x step other p e at))

    -- a process that isn't engaged has only sent messages that are acknowledged
    no_child : (h e q : ℕ) → h ≡ net.head e → e < net.edges → parents old h ≡ None → q < net.edges
        → acked_on net old q < sent_on net old q → net.tail q ≢ h
    no_child h e q at l none inside some z = is.none_to_root e l
        (sym (z ∙ at) ∙ busy_tail old kept q inside (ap (parents old) z ∙ none) some)

    -- it gets a rank above that of the tail
    engaged : (e : ℕ) → Happens net old (Get e) new → parents old (net.head e) ≡ None
        → parents new (net.head e) ≡ Some e → Ranked old → Ranked new
    engaged e step none now r = let h = net.head e in (
      λ p. cond (eqb p h) (suc (r.0 (net.tail e))) (r.0 p),
      λ p q l at. dite (ℕ_discrete p h)
          (λ z.
          let same : q ≡ e = cc in
          let sent = step.may.1 in
          let few = acked_most net is old kept e step.may.0 in
          let other = no_child h e e refl step.may.0 none step.may.0 (omega arith) in
          grind (arith, nat_tests))
          (λ n.
          let before : parents old p ≡ Some q = ap (λ (s : PartState). s.books.parent) (sym (step.others p n)) ∙ at in
          let up = r.1 p q l before in
          let edge = parent_edge old kept p q l before in
          let other = no_child h e q refl step.may.0 none edge.0.0 edge.2 in
          grind (arith, nat_tests)),
    )

    rank_step : (x : Event) → Happens net old x new → Ranked old → Ranked new
    rank_step (Get e) step r = ⊎_elim
        (λ was. engaged e step was.0 (step.notes.parent ∙ was.1) r)
        (λ same. (
          r.0,
          λ p q l at. r.1 p q l (sym (stays net is old kept new (Get e) step (λ s. s.books.parent)
              (step.notes.parent ∙ same) p) ∙ at),
        ))
        (or_else_cases (parents old (net.head e)) e)
    rank_step x step r = none_engaged x step (λ i z. absurd (cc)) r

  ranked : (first : World) → IsKept net first → Ranked first → (log : Log) (w : World) → Leads net first log w → Ranked w
  ranked first kept r [] w same = subst Ranked same r
  ranked first kept r (x ∷ log) w (v, way, step) =
      rank_step v (kept_on net is first kept log v way) w x step (ranked first kept r log v way)

  pub ranks : (log : Log) (w : World) → IsLegalLog net log w → Ranked w
  ranks log w legal = ranked legal.first (opens_kept net is legal.first legal.opens)
      (λ p. 0, λ p e l at. absurd (none_some e (parents legal.first p) (legal.opens p l).fresh.parent at)) log w legal.leads

  -- ---- and so a tree

  module _ (w : World) (kept : IsKept net w) (rank : ℕ → ℕ) (rises : AreRanks w rank) where
    record Grown (ps : List ℕ) (p : ℕ) : Type 0 where
      list : List ℕ
      tree : IsEngagementTree net w list
      has : Contains list p
      more : (q : ℕ) → Contains ps q → Contains list q

    -- an engaged process and all processes above it join a tree
    grown : (k p e : ℕ) → rank p < k → p < net.parts → parents w p ≡ Some e → (ps : List ℕ) → IsEngagementTree net w ps → Grown ps p
    grown zero p e low l at ps tree = absurd (omega arith)
    grown (suc k) p e low l at ps tree =
        let edge = parent_edge w kept p e l at in
        let inside = is.tails e edge.0.0 in
        let up = rises p e l at in
        ⊎_elim
        (λ none. put ps tree (inl (busy_tail w kept e edge.0.0 none edge.2)) (λ q m. m))
        (λ some. let t = grown k (net.tail e) some.0 (omega arith) inside some.1 ps tree in put t.list t.tree (inr t.has) t.more)
        (cases_option (parents w (net.tail e)))
      where
        put : (qs : List ℕ) → IsEngagementTree net w qs → (net.tail e ≡ net.root) ⊎ Contains qs (net.tail e)
            → ((q : ℕ) → Contains ps q → Contains qs q) → Grown ps p
        put qs tree from more = let edge = parent_edge w kept p e l at in ⊎_elim
            (λ has. record { list = qs; tree = tree; has = has; more = more })
            (λ out. record {
              list = p ∷ qs;
              tree = (tree, out, (e, record { parent = at; into = edge.0; from_earlier = from; owes = edge.1 }));
              has = contains_first p qs;
              more = λ q m. contains_later p qs q (more q m);
            })
            (contained qs p)

    all_below : (n : ℕ) → n ≤ net.parts → (ps : List ℕ) × IsEngagementTree net w ps
        × ((p e : ℕ) → p < n → parents w p ≡ Some e → Contains ps p)
    all_below zero few = ([], tt, λ p e l at. absurd (omega arith))
    all_below (suc n) few = let t = all_below n (omega arith) in ⊎_elim
        (λ none. (
          t.0,
          t.1,
          λ p e l at. dite (ℕ_discrete p n)
              (λ z. absurd (none_some e (parents w p) (ap (parents w) z ∙ none) at)) (λ other. t.2 p e (omega arith) at),
        ))
        (λ some. let g = grown (suc (rank n)) n some.0 (omega arith) (omega arith) some.1 t.0 t.1 in (
          g.list,
          g.tree,
          λ p e l at. dite (ℕ_discrete p n)
              (λ z. subst (Contains g.list) (sym z) g.has) (λ other. g.more p (t.2 p e (omega arith) at)),
        ))
        (cases_option (parents w n))

  -- in every legal log
  pub detection_order : (log : Log) (w : World) → IsLegalLog net log w → (ps : List ℕ) × IsEngagementOrder net w ps
  detection_order log w legal =
      let kept = legal_kept net is log w legal in
      let r = ranks log w legal in
      let t = all_below w kept r.0 r.1 net.parts (omega arith) in (
        t.0,
        record {
          tree = t.1;
          others = λ p l other out.
              let none : parents w p ≡ None = ⊎_elim (λ z. z) (λ some. absurd (out (t.2 p some.0 l some.1)))
              (cases_option (parents w p)) in
              let rest = kept.neutral p l other none in
              record {
                no_parent = none;
                passive = rest.0;
                nothing_owed = (kept.sound p l).neutral none;
                no_deficit = rest.1;
              };
        },
      )

  -- ---- if the root is closed

  module _ (log : Log) (w : World) (legal : IsLegalLog net log w) (closed : HasClosedRoot net w) where
    abbrev kept : IsKept net w
    kept = legal_kept net is log w legal

    -- the root waits for nothing
    root_settled : (e : ℕ) → e < net.edges → net.tail e ≡ net.root → sent_on net w e ≤ settled_on net w e
    root_settled e l at =
        let none : deficit (w (net.tail e)).books ≡ 0 = ap (λ (p : ℕ). deficit (w p).books) at ∙ closed.settled in
        let a = open_within_total (w (net.tail e)).books.outs e in omega arith

    none_below : (k p : ℕ) → p < net.parts → (ranks log w legal).0 p < k → parents w p ≡ None
    none_below zero p l low = absurd (omega arith)
    none_below (suc k) p l low = ⊎_elim (λ z. z)
        (λ some.
        let edge = parent_edge w kept p some.0 l some.1 in
        let up = (ranks log w legal).1 p some.0 l some.1 in
        let more = edge.2 in
        let none = none_below k (net.tail some.0) (is.tails some.0 edge.0.0) (omega arith) in
        let heard = kept.heard some.0 edge.0.0 in
        let all = root_settled some.0 edge.0.0 (busy_tail w kept some.0 edge.0.0 none edge.2) in
        absurd (omega arith))
        (cases_option (parents w p))

    -- and no process is engaged
    pub no_parents : (p : ℕ) → p < net.parts → parents w p ≡ None
    no_parents p l = none_below (suc ((ranks log w legal).0 p)) p l (omega arith)

    pub settled_up : (e : ℕ) → e < net.edges → IsSettledUp net w e
    settled_up e l =
        let got = kept.got e l in
        let acked = acked_most net is w kept e l in
        let heard = kept.heard e l in
        let all : sent_on net w e ≤ settled_on net w e = dite (ℕ_discrete (net.tail e) net.root)
        (root_settled e l)
        (λ other. let rest = kept.neutral (net.tail e) (is.tails e l) other (no_parents (net.tail e) (is.tails e l)) in
        let a = rest.1 in let b = open_within_total (w (net.tail e)).books.outs e in omega arith) in
        record { got = omega arith; acked = omega arith; settled = omega arith }

    pub closed_quiescent : IsQuiescent net w
    closed_quiescent = record {
      delivered = λ e l. (let a = (settled_up e l).got in omega arith);
      passive = λ p l. dite (ℕ_discrete p net.root)
          (λ root. ap (λ (q : ℕ). (w q).passive) root ∙ closed.ended)
          (λ other. (kept.neutral p l other (no_parents p l)).0);
    }

-- what the root's own books imply for all processes
pub tells_over : (books : Books) (ended : Bool) → ended ≡ true → deficit books ≡ 0 → IsOver books ended
tells_over books ended on none net is log w legal same also =
    closed_quiescent net is log w legal (record { ended = also ∙ on; settled = ap deficit same ∙ none })
