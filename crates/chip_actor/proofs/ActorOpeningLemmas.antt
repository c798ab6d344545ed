-- Serves Ends.antt.
-- A new actor stands for the opening of its vertex.
use Rattle.chip_actor.proofs.Names.{◌≡◌, ℕ, zero, suc, get_or, ◌+◌, ◌<◌, eqb, List, [], ◌∷◌, length, map, None, refl}
use Rattle.chip_actor.proofs.Names.{sym, ◌∙◌, arith, Contains, get_or_default, edges_out, degree, Setting, IsSetting}
use Rattle.chip_actor.proofs.Names.{tested_none, new_head, Books, IsSound, AreFreshBooks, stand_in_order, all_edges}
use Rattle.chip_actor.proofs.Names.{tail_of, opening_part, first_put, OutEnds, InEnds, on_edge, no_out, fresh_out}
use Rattle.chip_actor.proofs.Names.{IsFreshOuts, IsFreshIns, Actor, StandsFor, opening_keeps, first_few, outs_rise}
use Rattle.chip_actor.proofs.Names.{ins_rise, among_new_outs, among_new_ins, nat_tests}

-- an end that was made from its number
made_end : {T : Type 0} (none : T) (f : ℕ → T) (xs : List ℕ) (e : ℕ) → Contains xs e
    → on_edge none xs (map f xs) e ≡ f e
made_end {T} none f xs e (k, l, at) = by_place xs k l (rw (get_or_default xs k 0 e l) (at))
  where
    by_place : (xs : List ℕ) (k : ℕ) → k < length xs → get_or xs k 0 ≡ e → on_edge none xs (map f xs) e ≡ f e
    by_place [] k l at = absurd (omega arith)
    by_place (x ∷ xs) zero l at = grind (arith, nat_tests)
    by_place (x ∷ xs) (suc k) l at = let rest = by_place xs k (omega arith) at in grind (arith, nat_tests)

module _ (g : Setting) (v : ℕ) (setting : IsSetting g) (vertex : v < g.game.graph.vertices) (os : OutEnds) (is : InEnds)
    (b : Books)
    (outs : IsFreshOuts g.game.graph g.ring v os) (ins : IsFreshIns g.game.graph g.ring v is)
    (fresh : AreFreshBooks b is.edges (edges_out g.game.graph v)) (sound : IsSound b) where
  pub opens : (a : Actor) → a
      ≡ (let n : Actor = record {
        vertex = v;
        is_sink = eqb v g.game.graph.sink;
        degree = degree g.game.graph v;
        limit = g.game.limit;
        chips = 0;
        fired = 0;
        halt = None;
        outs = os;
        ins = is;
        detect = b;
        pending = 0;
        unput = 0;
        refused = 0;
      } in n)
      → StandsFor g (opening_part g) a
  opens a eq = rw eq record {
    knows = record {
      setting = setting;
      vertex = vertex;
      is_sink = refl;
      degree = refl;
      limit = refl;
      outs = outs.edges;
      ins = ins.edges;
      detect_outs = stand_in_order b.outs (edges_out g.game.graph v) sound.outs fresh.outs (outs_rise g.game.graph v);
      detect_ins = stand_in_order b.ins is.edges sound.ins fresh.ins
          (rw ins.edges (ins_rise g.game.graph v)) ∙ ins.edges;
    };
    kept = opening_keeps g setting.game v;
    few_chips = omega arith;
    few_pending = omega arith;
    chips = refl;
    fired = refl;
    halt = refl;
    outs = λ e at. rw (outs.edges, outs.ends, ← none_claimed e at) (made_end no_out (fresh_out g.game.graph g.ring)
        (edges_out g.game.graph v) e (among_new_outs g v vertex e at));
    ins = λ e at. rw ins.ends (made_end (new_head 0 1) (λ (e : ℕ). new_head e g.ring) is.edges e
        (rw ins.edges (among_new_ins g v vertex e at)));
    books = record {
      sound = sound;
      parent = fresh.parent;
      got = λ e at. fresh.ins.messages e;
      acked = λ e at. fresh.ins.answered e;
      sent = λ e at. rw (← none_claimed e at) (fresh.outs.messages e);
      settled = λ e at. fresh.outs.answered e;
    };
    pending = sym (tested_none (all_edges g) (λ e. eqb (tail_of g e) v) (λ e. 0) (λ e l on. refl));
    unput = sym (tested_none (all_edges g) (λ e. eqb (tail_of g e) v) (λ e. 0) (λ e l on. refl));
    refused = sym (tested_none (all_edges g) (λ e. eqb (tail_of g e) v) (λ e. 0) (λ e l on. refl));
  }
    where
      none_claimed : (e : ℕ) → tail_of g e ≡ v → 0 ≡ length (first_put g e) + 0
      none_claimed e at = let few = first_few g e
          (Rattle.chip_part.proofs.PartLemmas.tail_inside g e (rw (at) vertex)) in omega arith
