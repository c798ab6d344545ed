-- Serves Actor.antt.
-- What follows for an actor that stands for a part.
use Rattle.chip_actor.proofs.Names.{refl, nat_tests, ◌≡◌, ℕ, ◌<◌, ◌≤◌, ◌^◌, Bool, true, not, eqb, [], ◌∷◌, ◌++◌}
use Rattle.chip_actor.proofs.Names.{length, Option, is_some, is_none, ap, ◌∙◌, arith, dite, dec_lt, Contains, sum_by}
use Rattle.chip_actor.proofs.Names.{sum_by-append, edge_at, edges_out, edges_in, Setting, tested_ext, picked_sum}
use Rattle.chip_actor.proofs.Names.{in_edges, out_edges, acknowledgeable_count, message_limit, graph_edges, all_edges}
use Rattle.chip_actor.proofs.Names.{root_edge, tail_of, head_of, Cause, Part, owed_on, outstanding_on, deficit_of, owed_by}
use Rattle.chip_actor.proofs.Names.{is_legal, is_passive, may_ack_on, Actor, StandsFor, is_legal_now, is_passive_now}
use Rattle.chip_actor.proofs.Names.{tail_graph, head_graph, head_root, over_outs_graph, over_ins_graph, tail_inside}
use Rattle.chip_actor.proofs.Names.{picked_passes, among_new_outs, among_new_ins, All-contains, All-picked}
use Rattle.chip_detect.specs.Books as books
use Rattle.chip_detect.specs.Acknowledging as detector

-- a vertex that is not running is halted
not_running : (h : Option Cause) → is_some h ≡ not (is_none h)
not_running h = grind (arith, nat_tests)

module _ (g : Setting) (s : Part) (a : Actor) (stands : StandsFor g s a) where
  -- ---- its edges

  pub out_inside : (e : ℕ) → tail_of g e ≡ a.vertex → e < graph_edges g
  out_inside e at = tail_inside g e (rw (at) stands.knows.vertex)

  pub among_outs : (e : ℕ) → tail_of g e ≡ a.vertex → Contains a.outs.edges e
  among_outs e at = rw stands.knows.outs (among_new_outs g a.vertex stands.knows.vertex e at)

  pub in_inside : (e : ℕ) → head_of g e ≡ a.vertex → e < all_edges g
  in_inside e at = dite (dec_lt e (graph_edges g)) (λ l. omega arith) (λ n. let h = head_root g e (omega arith) in
      let v = stands.knows.vertex in omega arith)

  has_in : (e : ℕ) → head_of g e ≡ a.vertex → Contains (edges_in g.game.graph a.vertex ++ root_edge g a.vertex ∷ []) e
  has_in = among_new_ins g a.vertex stands.knows.vertex

  pub among_ins : (e : ℕ) → head_of g e ≡ a.vertex → Contains a.ins.edges e
  among_ins e at = rw stands.knows.ins (has_in e at)

  pub books_in : (e : ℕ) → head_of g e ≡ a.vertex → Contains (in_edges a.detect) e
  books_in e at = rw stands.knows.detect_ins (has_in e at)

  -- its books have the same edges in the same order
  pub books_ins : in_edges a.detect ≡ a.ins.edges
  books_ins = rw stands.knows.ins stands.knows.detect_ins

  pub books_outs : out_edges a.detect ≡ a.outs.edges
  books_outs = rw stands.knows.outs stands.knows.detect_outs

  -- ---- its sums

  pub owed_is : (e : ℕ) → head_of g e ≡ a.vertex → books.owed a.detect e ≡ owed_on (s.into e)
  owed_is e at = let x = stands.books.got e at in let y = stands.books.acked e at in omega arith

  pub outstanding_is : (e : ℕ) → tail_of g e ≡ a.vertex → books.outstanding a.detect e ≡ outstanding_on (s.out e)
  outstanding_is e at = let x = stands.books.sent e at in let y = stands.books.settled e at in omega arith

  pub deficit_is : books.deficit a.detect ≡ deficit_of g a.vertex s
  deficit_is =
      let test : ℕ → Bool = λ e. eqb (edge_at g.game.graph e).tail a.vertex in
      let all = ap (sum_by (books.outstanding a.detect)) stands.knows.detect_outs in
      let own = picked_sum (books.outstanding a.detect) test (graph_edges g) in
      let each = tested_ext (graph_edges g) test (books.outstanding a.detect) (λ e. outstanding_on (s.out e))
      (λ e l on. outstanding_is e (rw (tail_graph g e l) (Rattle.std.proofs.Common.eqb-true _ _ on))) in
      let sum = over_outs_graph g a.vertex stands.knows.vertex (λ e. outstanding_on (s.out e)) in
      omega arith

  pub all_owed_is : books.all_owed a.detect ≡ owed_by g a.vertex s
  all_owed_is =
      let v = stands.knows.vertex in
      let split = sum_by-append (books.owed a.detect) (edges_in g.game.graph a.vertex) (root_edge g a.vertex ∷ []) in
      let all = ap (sum_by (books.owed a.detect)) stands.knows.detect_ins in
      let test : ℕ → Bool = λ e. eqb (edge_at g.game.graph e).head a.vertex in
      let own = picked_sum (books.owed a.detect) test (graph_edges g) in
      let each = tested_ext (graph_edges g) test (books.owed a.detect) (λ e. owed_on (s.into e))
      (λ e l on. owed_is e (rw (head_graph g e l) (Rattle.std.proofs.Common.eqb-true _ _ on))) in
      let last = owed_is (root_edge g a.vertex) (let h = head_root g (root_edge g a.vertex) (omega arith) in
      omega arith) in
      let sum = over_ins_graph g a.vertex v (λ e. owed_on (s.into e)) in
      omega arith

  pub legal_is : is_legal_now a ≡ is_legal g a.vertex s
  legal_is = rw (stands.knows.is_sink, stands.knows.degree, stands.chips) refl

  pub passive_is : is_passive_now a ≡ is_passive g a.vertex s
  passive_is = rw (stands.unput, stands.halt, stands.pending, legal_is, ← not_running s.halt) refl

  pub may_ack_is : (e : ℕ) → head_of g e ≡ a.vertex
      → detector.may_ack a.detect e (is_passive_now a) ≡ may_ack_on g (head_of g e) s e
  may_ack_is e at = rw (at) (λ j. acknowledgeable_count e (stands.books.parent j) (owed_is e at j) (all_owed_is j)
      (deficit_is j) (passive_is j))

  -- ---- limits

  pub few_got : (e : ℕ) → head_of g e ≡ a.vertex → length (s.into e).got ≤ message_limit
  few_got e at = let x = stands.books.got e at in let y = stands.books.sound.ins.within e in omega arith

  pub few_fired : s.fired ≤ 2 ^ 40
  few_fired = let x = stands.kept.within in let y = stands.knows.setting.game.low_limit in omega arith

  -- what the actor keeps as an edge out of its vertex is one
  pub is_out : (e : ℕ) → Contains a.outs.edges e → tail_of g e ≡ a.vertex
  is_out e among =
      let there = rw stands.knows.outs at among in
      let test : ℕ → Bool = λ i. eqb (edge_at g.game.graph i).tail a.vertex in
      let passes = All-contains (λ i. test i ≡ true) (edges_out g.game.graph a.vertex) e
      (picked_passes test (graph_edges g)) there in
      let below = All-contains (λ i. i < graph_edges g) (edges_out g.game.graph a.vertex) e
      (All-picked test (graph_edges g) (graph_edges g) (omega arith)) there in
      tail_graph g e below ∙ Rattle.std.proofs.Common.eqb-true _ _ passes
