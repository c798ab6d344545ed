-- Serves Core.antt.
-- Every read that was made saw the fired word at the end, and the root is closed there.
use Rattle.chip_core.proofs.Names.{◌≡◌, ◌↔◌, ℕ, ◌<◌, [], ◌∷◌, true, None, Contains, arith, ⊎_elim, eqb}
use Rattle.chip_core.proofs.Names.{eqb-true, IsGame, Setting, tested_none, deficit_of, rules_met, out_zero, Log, Step}
use Rattle.chip_core.proofs.Names.{Read, unmet_rule, part_in, word_of_part, IsLegalLog, IsSettled}
use Rattle.chip_core.proofs.Names.{IsClosed, outstanding_on, tail_of, root, all_edges, contains_cases}
use Rattle.chip_core.proofs.ClosingLemmas.{still, still_closed}

-- the two ways to state that all that the root sent is settled
pub settled_is : (g : Setting) (log : Log) → (deficit_of g (root g) (part_in g log (root g)) ≡ 0) ↔ IsSettled g log
settled_is g log = (
  (λ none e l at. (let a = out_zero g (root g) (λ i. outstanding_on ((part_in g log (root g)).out i)) none e l at in
      cc)),
  (λ settled. tested_none (all_edges g) (λ e. eqb (tail_of g e) (root g))
      (λ e. outstanding_on ((part_in g log (root g)).out e)) (λ e l on.
      (let at = eqb-true (tail_of g e) (root g) on in let b = settled e l at in cc))),
)

-- and that it is closed
pub closed_is : (g : Setting) (log : Log)
    → (((part_in g log (root g)).ended ≡ true) × (deficit_of g (root g) (part_in g log (root g)) ≡ 0)) ↔ IsClosed g log
closed_is g log = (
  (λ both. (both.0, (settled_is g log).0 both.1)),
  (λ closed. (closed.0, (settled_is g log).1 closed.1)),
)

module _ (g : Setting) (game : IsGame g.game) (some_ring : 0 < g.ring) where
  read_here : (log : Log) (y : Step) (v : ℕ) → IsLegalLog g (y ∷ log) → y.event ≡ Read v
      → (v < g.game.graph.vertices) × IsClosed g log × (y.seen ≡ word_of_part (part_in g log v))
  read_here log y v legal is =
      let none : unmet_rule g (Read v) (part_in g log (root g))
      ≡ None = cc in
      let may = rules_met g (Read v) (part_in g log (root g)) none in
      (may.0, (closed_is g log).0 (may.2, may.1), cc)

  pub reads_tell : (log : Log) → IsLegalLog g log → (x : Step) (v : ℕ) → Contains log x → x.event ≡ Read v
      → (v < g.game.graph.vertices) × IsClosed g log × (x.seen ≡ word_of_part (part_in g log v))
  reads_tell [] legal x v made is = let a = made.1 in absurd (omega arith)
  reads_tell (y ∷ log) legal x v made is =
      let here : (v < g.game.graph.vertices) × IsClosed g log × (x.seen ≡ word_of_part (part_in g log v)) = ⊎_elim
      (λ e. (let r = read_here log y v legal (cc) in
      (r.0, r.1, cc)))
      (λ m. reads_tell log legal.0 x v m is)
      (contains_cases y log x made) in
      let l = here.0 in
      let same = still g game some_ring log legal.0 here.1 y legal v (λ z. (absurd (omega arith))) in
      (here.0, still_closed g game some_ring log legal.0 here.1 y legal, cc)
