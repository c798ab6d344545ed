-- Serves Root.antt.
-- The root: what is outstanding at the opening, and how a settle of a root edge changes it.
use Rattle.std.proofs.lemmas.Bool.Decides.{nat_tests}
use Rattle.chip_part.proofs.OpeningLemmas.{first_is}
use Rattle.std.proofs.Common.{rules, ◌≡◌, ℕ, ◌+◌, ◌-◌, ◌<◌, ◌≤◌, cond, eqb, List, length, set, replicate, slice_index}
use Rattle.std.proofs.Common.{eq-eqb, refl, None, sym, ap, ◌∙◌, subst, arith, length-set, get_or-set_same}
use Rattle.std.proofs.Common.{get_or-set_other}
use Rattle.std.proofs.lemmas.List.{get_or-replicate, length-replicate}
use Rattle.std.proofs.lemmas.Bool.{leb-true}
use mathlib.Core.Logic.{dite}
use native.Mathlib.Decide.{ℕ_discrete}
use Rattle.chip_graph.proofs.SumLemmas.{tested_term, tested_move, cond_yes, cond_no, sum_below_ext, sum_below_none}
use Rattle.chip_graph.proofs.SumLemmas.{sum_below_split}
use Rattle.chip_link.specs.Link.{claims_of}
use Rattle.chip_graph.specs.ChipGame.{IsGame}
use Rattle.chip_part.specs.Setting.{Setting}
use Rattle.chip_part.specs.Edges.{graph_edges, all_edges, root_edge, start_of, tail_of, root}
use Rattle.chip_part.specs.Part.{Part, opening_part, outstanding_on, deficit_of}
use Rattle.chip_part.specs.Rules.{Settle, unmet_rule}
use Rattle.chip_part.specs.Steps.{Step, does, reply_of, saw}
use Rattle.chip_part.specs.declared.reply.Reply.TheVariants.{Done}
use Rattle.chip_actor.specs.Root.{Root, Feeder, Feeds, RootStandsFor, SomeRoot, RootCanDo, RootMakes, RootSettles}
use Rattle.chip_actor.specs.Root.{with_chips}
use Rattle.chip_part.proofs.EdgeLemmas.{tail_root, tail_graph}
use Rattle.chip_part.proofs.RuleLemmas.{rules_met}

-- ---- the opening

module _ (g : Setting) where
  pub first_claims : (v : ℕ) → claims_of ((opening_part g).out (root_edge g v)).link ≡ cond (eqb (start_of g v) 0) 0 1
  first_claims v = let first = first_is g v in grind (arith, nat_tests)

  one_each : (v : ℕ) → outstanding_on ((opening_part g).out (root_edge g v)) ≡ cond (eqb (start_of g v) 0) 0 1
  one_each v = let one = first_claims v in omega arith

  pub all_outstanding : IsGame g.game
      → with_chips g.game.start g.game.graph.vertices ≡ deficit_of g (root g) (opening_part g)
  all_outstanding game =
      let f : ℕ → ℕ = λ e. cond (eqb (tail_of g e) (root g)) (outstanding_on ((opening_part g).out e)) 0 in
      let parted = sum_below_split (graph_edges g) g.game.graph.vertices f in
      let none = sum_below_none (graph_edges g) f
      (λ e l. cond_no (tail_of g e) (root g) _ 0 (λ z. (let inside = edge_inside e l in absurd (omega arith)))) in
      let each = sum_below_ext g.game.graph.vertices (λ v. f (graph_edges g + v)) (λ v. cond (eqb (start_of g v) 0) 0 1)
      (λ v l. cond_yes (tail_of g (root_edge g v)) (root g) _ 0 (tail_root g (root_edge g v) (omega arith))
      ∙ one_each v) in
      omega arith
    where
      edge_inside : (e : ℕ) → e < graph_edges g → tail_of g e < g.game.graph.vertices
      edge_inside e l = subst (λ (t : ℕ). t < g.game.graph.vertices) (sym (tail_graph g e l))
          (game.graph_fits.edges_fit e l).tail_is_vertex

  pub root_opens : IsGame g.game → (r : Root) → r.graph_edges ≡ graph_edges g → r.settled ≡ replicate g.game.graph.vertices 0
      → r.outstanding ≡ with_chips g.game.start g.game.graph.vertices → Feeds g (opening_part g) r.feeder
      → RootStandsFor g (opening_part g) r
  root_opens game r edges settled counted feeder = record {
    game = game;
    edges = edges;
    settled_each = ap (λ (l : List ℕ). length l) settled ∙ length-replicate g.game.graph.vertices 0;
    settled = λ v l. ap (λ (l : List ℕ). slice_index l v) settled ∙ get_or-replicate g.game.graph.vertices v 0 0 l;
    outstanding = counted ∙ all_outstanding game;
    feeder = feeder;
  }

-- ---- a settle

module _ (g : Setting) (s : Part) (r : Root) (stands : RootStandsFor g s r) (edge seen : ℕ)
    (past : graph_edges g ≤ edge) (may : unmet_rule g (Settle edge) s ≡ None)
    (low : (s.out edge).settled ≤ seen) (high : seen ≤ claims_of (s.out edge).link) where
  abbrev v : ℕ
  v = edge - graph_edges g

  edge_is : edge ≡ root_edge g v
  edge_is = omega arith

  within : edge < all_edges g
  within = rules_met g (Settle edge) s may

  own_edge : tail_of g edge ≡ root g
  own_edge = tail_root g edge past

  pub vertex_within : edge - r.graph_edges < length r.settled
  vertex_within = let edges = stands.edges in let each = stands.settled_each in let l = within in omega arith

  was : slice_index r.settled (edge - r.graph_edges) ≡ (s.out edge).settled
  was =
      let l = within in
      ap (λ (n : ℕ). slice_index r.settled (edge - n)) stands.edges ∙ stands.settled v (omega arith)
      ∙ ap (λ (e : ℕ). (s.out e).settled) (sym edge_is)

  pub settled_low : slice_index r.settled (edge - r.graph_edges) ≤ seen
  settled_low = let is = was in omega arith

  pub more_low : seen - slice_index r.settled (edge - r.graph_edges) ≤ r.outstanding
  more_low =
      let term = tested_term (all_edges g) (λ e. eqb (tail_of g e) (root g)) (λ e. outstanding_on (s.out e)) edge within
      (eq-eqb _ _ own_edge) in
      let all = stands.outstanding in let is = was in
      omega arith

  abbrev settling : Step
  settling = saw (Settle edge) seen

  settled_now : (u : ℕ) → u < g.game.graph.vertices
      → slice_index (set r.settled (edge - r.graph_edges) seen) u ≡ ((does g settling s).out (root_edge g u)).settled
  settled_now u m =
      let edges = stands.edges in let before = stands.settled u m in
      dite (ℕ_discrete u v)
      (λ same.
      let at : edge ≡ root_edge g u = omega arith in let place : u ≡ edge - r.graph_edges = omega arith in
      let here = get_or-set_same r.settled (edge - r.graph_edges) seen 0 vertex_within in grind (arith, nat_tests))
      (λ other.
      let still = get_or-set_other r.settled (edge - r.graph_edges) u seen 0
      (λ z. other (let a : u ≡ v = omega arith in a)) in grind (arith, nat_tests))

  outstanding_now : r.outstanding - (seen - slice_index r.settled (edge - r.graph_edges))
      ≡ deficit_of g (root g) (does g settling s)
  outstanding_now =
      let new : Part = does g settling s in
      let moved = tested_move (all_edges g) (λ e. eqb (tail_of g e) (root g)) (λ e. outstanding_on (new.out e))
      (λ e. outstanding_on (s.out e)) edge within (eq-eqb _ _ own_edge)
      (λ e m other on. ap (λ (n : ℕ). claims_of (s.out e).link - n)
      (cond_no edge e _ (s.out e).settled (λ z. other (sym z)))) in
      let here : outstanding_on (new.out edge)
      ≡ claims_of (s.out edge).link - ((s.out edge).settled + (seen - (s.out edge).settled)) =
      ap (λ (n : ℕ). claims_of (s.out edge).link - n) (cond_yes edge edge _ (s.out edge).settled refl) in
      let is = was in let all = stands.outstanding in let few = more_low in
      omega arith

  feeds_still : (f : Feeder) → Feeds g s f → Feeds g (does g settling s) f
  feeds_still f feeds =
      let was = feeds.few_outstanding in let now = outstanding_now in let old = stands.outstanding in
      let few : (u : ℕ) → u < g.game.graph.vertices → ((does g settling s).out (root_edge g u)).settled
      ≤ claims_of (s.out (root_edge g u)).link = (λ u m. let low = feeds.settled_few u m in grind (arith, nat_tests)) in
      search (rules, arith, nat_tests)

  pub settles : (after : Root) → after.graph_edges ≡ r.graph_edges
      → after.settled ≡ set r.settled (edge - r.graph_edges) seen
      → after.outstanding ≡ r.outstanding - (seen - slice_index r.settled (edge - r.graph_edges))
      → after.feeder ≡ r.feeder → RootStandsFor g (does g settling s) after
  settles after edges settled counted feeder = record {
    game = stands.game;
    edges = edges ∙ stands.edges;
    settled_each = ap (λ (l : List ℕ). length l) settled ∙ length-set r.settled (edge - r.graph_edges) seen
        ∙ stands.settled_each;
    settled = λ u m. ap (λ (l : List ℕ). slice_index l u) settled ∙ settled_now u m;
    outstanding = counted ∙ outstanding_now;
    feeder = subst (Feeds g (does g settling s)) (sym feeder) (feeds_still r.feeder stands.feeder);
  }

  pub more_is : seen - slice_index r.settled (edge - r.graph_edges) ≡ seen - (s.out edge).settled
  more_is = ap (λ (n : ℕ). seen - n) was

-- a root that stands for some part may count what a settle of the root edge of a vertex saw
pub can_settle_at : (r : Root) (v seen : ℕ) → SomeRoot r (λ g s. RootCanDo g s (Settle (root_edge g v)) seen)
    → (v < length r.settled) × (slice_index r.settled v ≤ seen) × (seen - slice_index r.settled v ≤ r.outstanding)
can_settle_at r v seen (g, s, stands, can) =
    let edge : ℕ = root_edge g v in
    let past = leb-true (graph_edges g) edge can.0 in
    let at : edge - r.graph_edges ≡ v = (let edges = stands.edges in omega arith) in
    subst (λ (n : ℕ). (n < length r.settled) × (slice_index r.settled n ≤ seen)
    × (seen - slice_index r.settled n ≤ r.outstanding)) at (
      vertex_within g s r stands edge seen past can.1 can.2.0 can.2.1,
      settled_low g s r stands edge seen past can.1 can.2.0 can.2.1,
      more_low g s r stands edge seen past can.1 can.2.0 can.2.1,
    )

pub settle_made_at : (r : Root) (v seen : ℕ) (after : Root) (more : ℕ) → more ≡ seen - slice_index r.settled v
    → after.graph_edges ≡ r.graph_edges → after.settled ≡ set r.settled v seen
    → after.outstanding ≡ r.outstanding - more → after.feeder ≡ r.feeder → RootSettles r after v seen more
settle_made_at r v seen after more more_at edges settled counted feeder = λ g s stands can.
    let edge : ℕ = root_edge g v in
    let past = leb-true (graph_edges g) edge can.0 in
    let at : v ≡ edge - r.graph_edges = (let is = stands.edges in omega arith) in
    let is : more ≡ seen - slice_index r.settled (edge - r.graph_edges) = more_at
    ∙ ap (λ (n : ℕ). seen - slice_index r.settled n) at in (
      settles g s r stands edge seen past can.1 can.2.0 can.2.1 after edges (settled
          ∙ ap (λ (n : ℕ). set r.settled n seen) at) (counted ∙ ap (λ (n : ℕ). r.outstanding - n) is) feeder,
      ap Done (is ∙ more_is g s r stands edge seen past can.1 can.2.0 can.2.1),
    )

-- such a settle, by the number of the edge
pub asks_at : (r : Root) (v e seen : ℕ) → e ≡ r.graph_edges + v → SomeRoot r (λ g s. RootCanDo g s (Settle e) seen)
    → SomeRoot r (λ g s. RootCanDo g s (Settle (root_edge g v)) seen)
asks_at r v e seen at (g, s, stands, can) =
    let is : e ≡ root_edge g v = at ∙ ap (λ (n : ℕ). n + v) stands.edges in
    (g, s, stands, subst (λ (f : ℕ). RootCanDo g s (Settle f) seen) is can)

pub makes_at : (old new : Root) (v e seen more : ℕ) → e ≡ old.graph_edges + v → RootSettles old new v seen more
    → RootMakes old new (Settle e) seen (Done more)
makes_at old new v e seen more at settles = λ g s stands.
    let is : root_edge g v ≡ e = sym (at ∙ ap (λ (n : ℕ). n + v) stands.edges) in
    subst (λ (f : ℕ). RootCanDo g s (Settle f) seen → RootStandsFor g (does g (saw (Settle f) seen) s) new
    × (Done more ≡ reply_of g (Settle f) seen s)) is (settles g s stands)
