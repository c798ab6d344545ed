-- Serves Detection.antt, Core.antt. A detection order exists in every legal log, and no vertex is engaged if the root
-- is closed: both by the theorem on diffusing computations.
use Rattle.chip_core.proofs.Names.{eqb-true, ◌≡◌, ℕ, ◌<◌, eqb, List, [], ◌∷◌, length, refl, sym, ap, ◌∙◌, subst, arith}
use Rattle.chip_core.proofs.Names.{⊎_elim, option_to_list, IsGame, Setting, tested_none, owed_on, IsNeutral, Part}
use Rattle.chip_core.proofs.Names.{out_zero, Log, part_in, out_in, into_in, IsLegalLog, IsClosed, outstanding_on}
use Rattle.chip_core.proofs.Names.{all_edges, tail_of, root, IsTree, IsDetectionOrder, is_passive, true, ◌≤◌, claims_of}
use Rattle.chip_core.proofs.Names.{nat_tests}
use Rattle.chip_core.proofs.LogLemmas.{part_kept, edge_counts, tail_cases}
use Rattle.chip_core.proofs.InstanceLemmas.{net, was, events_of, is_network, legal_there, at_root}
use Rattle.chip_core.proofs.InstanceLemmas.{owes_same, deficit_same, shows}
use Rattle.chip_diffusing.specs.Computation as diffusing
use Rattle.chip_diffusing.specs.Ending as diffusing_order
use Rattle.chip_diffusing.proofs.OrderLemmas as theorem

module _ (g : Setting) (game : IsGame g.game) (some_ring : 0 < g.ring) (log : Log) (legal : IsLegalLog g log) where
  abbrev there : diffusing.IsLegalLog (net g) (events_of g log) (was g log)
  there = legal_there g game some_ring log legal

  tree_is : (vs : List ℕ) → diffusing_order.IsEngagementTree (net g) (was g log) vs → IsTree g log vs
  tree_is [] tree = tt
  tree_is (v ∷ vs) tree =
      let e : ℕ = tree.2.0 in
      let p = tree.2.1 in
      let s : Part = part_in g log v in
      let here = owes_same g e v s p.into.0 p.into.1 in
      let owes = p.owes in
      let mine : 0 < owed_on (s.into e) = omega arith in (
        tree_is vs tree.0,
        tree.1,
        (
          e,
          record {
            parent = p.parent;
            is_edge = p.into.0;
            head = p.into.1;
            from_earlier = p.from_earlier;
            owes = subst (λ (q : ℕ). 0 < owed_on ((part_in g log q).into e)) (sym p.into.1) mine;
          },
        ),
      )

  pub detection_order : (vs : List ℕ) × IsDetectionOrder g log vs
  detection_order =
      let o = theorem.detection_order (net g) (is_network g game some_ring) (events_of g log) (was g log) there in (
        o.0,
        record {
          tree = tree_is o.0 o.1.tree;
          others = λ v l out. (part_kept g game log legal v).neutral l
              (o.1.others v (omega arith) (λ z. absurd (omega arith)) out).no_parent;
        },
      )

  -- ---- the same worlds are over and have a closed root

  pub quiescent_there : ((v : ℕ) → v < g.game.graph.vertices → is_passive g v (part_in g log v) ≡ true)
      → ((e : ℕ) → e < all_edges g → claims_of (out_in g log e).link ≤ length (into_in g log e).got)
      → (part_in g log (root g)).ended ≡ true → diffusing.IsQuiescent (net g) (was g log)
  quiescent_there passive taken end = record {
    delivered = λ e l. let a = taken e l in let b = (shows g log).sent e l in let c = (shows g log).got e l in omega arith;
    passive = λ p l. (let a = passive p in let b = at_root g p (part_in g log p) in grind (arith, nat_tests));
  }

  pub closed_here : diffusing.HasClosedRoot (net g) (was g log) → IsClosed g log
  closed_here closed =
      let s : Part = part_in g log (root g) in
      let none = sym (deficit_same g (root g) s) ∙ closed.settled in (
        sym (at_root g (root g) s refl) ∙ closed.ended,
        λ e l at. ap (λ (q : ℕ). outstanding_on ((part_in g log q).out e)) at
            ∙ out_zero g (root g) (λ i. outstanding_on (s.out i)) none e l at,
      )

  -- ---- if the root is closed

  module _ (closed : IsClosed g log) where
    pub closed_there : diffusing.HasClosedRoot (net g) (was g log)
    closed_there = let s : Part = part_in g log (root g) in record {
      ended = at_root g (root g) s refl ∙ closed.0;
      settled = deficit_same g (root g) s ∙ tested_none (all_edges g) (λ e. eqb (tail_of g e) (root g))
          (λ e. outstanding_on (s.out e))
          (λ e l on. (let at = eqb-true _ _ on in
          ap (λ (q : ℕ). outstanding_on ((part_in g log q).out e)) (sym at) ∙ closed.1 e l at));
    }

    pub all_neutral : (v : ℕ) → v < g.game.graph.vertices → IsNeutral g v (part_in g log v)
    all_neutral v l = (part_kept g game log legal v).neutral l (theorem.no_parents (net g) (is_network g game some_ring)
        (events_of g log) (was g log) there closed_there v (omega arith))

    none_outstanding : (e : ℕ) → e < all_edges g → outstanding_on (out_in g log e) ≡ 0
    none_outstanding e l = ⊎_elim (λ z. closed.1 e l z)
        (λ t. out_zero g (tail_of g e) (λ i. outstanding_on ((part_in g log (tail_of g e)).out i))
        (all_neutral (tail_of g e) t).no_deficit e l refl) (tail_cases g game e)

    -- settled, acknowledged, delivered, put and sent are one number
    pub all_counts : (e : ℕ) → e < all_edges g → ((out_in g log e).settled ≡ (into_in g log e).acked)
        × ((into_in g log e).acked ≡ length (into_in g log e).got)
        × (length (into_in g log e).got ≡ length (out_in g log e).link.put)
        × (length (option_to_list (out_in g log e).link.held) ≡ 0)
    all_counts e l =
        let a = none_outstanding e l in let c = edge_counts g game some_ring log legal e in let c0 = c.0 in let c1 = c.1
        in let c2 = c.2 in
        (omega arith, omega arith, omega arith, omega arith)
