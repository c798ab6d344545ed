-- Serves World.antt.
-- What is claimed on an edge and not put, by the tail of the edge.
use Rattle.chip_world.proofs.Names.{nat_tests, ◌≡◌, ◌∙◌, ◌<◌, ◌≤◌, ℕ, Option, Some, None, get_or, sym, arith, refl}
use Rattle.chip_world.proofs.Names.{sum, option_to_list, unwrap_or, Setting, graph_edges, all_edges, tail_of}
use Rattle.chip_world.proofs.Names.{tail_if, root, Actor, WhateverPart, WhateverRoot, tail_root, Log, Put}
use Rattle.chip_world.proofs.Names.{part_in, out_in, WorldState, StandsForLog}
use Rattle.chip_world.proofs.ActorLemmas.{maker}

-- an edge without a vertex as its tail is after the graph's
no_tail : (g : Setting) (e : ℕ) → tail_if g e ≡ None → graph_edges g ≤ e
no_tail g e is = grind (arith, nat_tests)

module _ (g : Setting) (log : Log) (w : WorldState) (stands : StandsForLog g log w) (e : ℕ) (held : Option ℕ) where
  pub held_by_vertex : (v : ℕ) (a : Actor) → tail_if w.setting e ≡ Some v → a ≡ get_or w.actors v a
      → WhateverPart a (λ g s. tail_of g e ≡ a.vertex → held ≡ (s.out e).link.held) → held ≡ (out_in g log e).link.held
  held_by_vertex v a found_at actor_is tells =
      let is = maker g log w stands (Put e) v a found_at actor_is in
      tells g (part_in g log (tail_of g e)) (rw is.0 is.2.stands) (is.0 ∙ sym is.2.vertex_is)

  pub held_by_root : tail_if w.setting e ≡ None → e < all_edges w.setting
      → WhateverRoot w.root (λ g s. graph_edges g ≤ e → e < all_edges g → held ≡ (s.out e).link.held)
      → held ≡ (out_in g log e).link.held
  held_by_root none inside tells =
      let past = no_tail g e (rw stands.setting at none) in
      rw (tail_root g e past, out_in)
      (tells g (part_in g log (root g)) stands.root_stands past (rw stands.setting at inside))

-- the count that is held, or 0
pub or_none : (h : Option ℕ) → unwrap_or h 0 ≡ sum (option_to_list h)
or_none None = refl
or_none (Some n) = omega arith
