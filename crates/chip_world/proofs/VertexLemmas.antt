-- Serves Makers.antt.
-- The vertex that makes an event.
use Rattle.chip_world.proofs.Names.{◌≡◌, ℕ, ◌<◌, false, Some, None}
use Rattle.chip_world.proofs.Names.{arith, nat_tests, true≢false, IsGame, Setting}
use Rattle.chip_world.proofs.Names.{NoSuch, Event, Take, Ack, Fire, Clear, Claim, Put, Halt, Settle, Part, unmet_rule}
use Rattle.chip_world.proofs.Names.{part_of, tail_of, head_of, head_inside, tail_inside}
use Rattle.chip_world.proofs.Names.{head_if, tail_if, vertex_if, vertex_of, is_of_others}

module _ (g : Setting) where
  module _ (game : IsGame g.game) where
    by_head : (e v : ℕ) → head_if g e ≡ Some v → (head_of g e ≡ v) × (v < g.game.graph.vertices)
    by_head e v is = let inside = head_inside g game e in grind (arith, nat_tests)

    by_tail : (e v : ℕ) → tail_if g e ≡ Some v → (tail_of g e ≡ v) × (v < g.game.graph.vertices)
    by_tail e v is = let inside = tail_inside g game e in grind (arith, nat_tests)

    by_vertex : (u v : ℕ) → vertex_if g u ≡ Some v → (u ≡ v) × (v < g.game.graph.vertices)
    by_vertex u v is = grind (arith, nat_tests)

    -- the vertex that was found makes the event
    pub found : (x : Event) (v : ℕ) → vertex_of g x ≡ Some v → (part_of g x ≡ v) × (v < g.game.graph.vertices)
    found (Take e) v is = by_head e v is
    found (Ack e) v is = by_head e v is
    found (Fire u k) v is = by_vertex u v is
    found (Clear e) v is = by_tail e v is
    found (Claim e) v is = by_tail e v is
    found (Put e) v is = by_tail e v is
    found (Halt u) v is = by_vertex u v is
    found (Settle e) v is = by_tail e v is
    found _ v is = absurd (cc)

  -- if none was found the event names no edge and no vertex
  pub missing : (x : Event) (s : Part) → is_of_others g x ≡ false → vertex_of g x ≡ None
      → unmet_rule g x s ≡ Some NoSuch
  missing (Take e) s mine is = grind (arith, nat_tests)
  missing (Ack e) s mine is = grind (arith, nat_tests)
  missing (Fire u k) s mine is = grind (arith, nat_tests)
  missing (Clear e) s mine is = grind (arith, nat_tests)
  missing (Claim e) s mine is = grind (arith, nat_tests)
  missing (Put e) s mine is = grind (arith, nat_tests)
  missing (Halt u) s mine is = grind (arith, nat_tests)
  missing (Settle e) s mine is = grind (arith, nat_tests)
  missing _ s mine is = absurd (true≢false mine)
