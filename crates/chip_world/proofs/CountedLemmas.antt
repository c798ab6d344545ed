-- Serves World.antt.
-- The head of an edge keeps books of it.
use Rattle.chip_world.proofs.Names.{◌≡◌, ℕ, get_or, Some, sym, ◌∙◌, Contains, Setting, head_if, in_edges, Actor}
use Rattle.chip_world.proofs.Names.{books_in, Log, Take, part_in, WorldState, StandsForLog}
use Rattle.chip_world.proofs.ActorLemmas.{maker}

pub has_books : (g : Setting) (log : Log) (w : WorldState) → StandsForLog g log w → (e v : ℕ) (a : Actor)
    → head_if w.setting e ≡ Some v → a ≡ get_or w.actors v a → Contains (in_edges a.detect) e
has_books g log w stands e v a found_at actor_is =
    let at = maker g log w stands (Take e) v a found_at actor_is in
    books_in g (part_in g log v) a at.2.stands e (at.0 ∙ sym at.2.vertex_is)
