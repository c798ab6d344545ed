-- Serves Rules.antt. The meaning of an event's rules: each holds if none is unmet, and conversely.
use Rattle.std.proofs.Common.{◌≡◌, ◌≢◌, ℕ, ◌<◌, ◌≤◌, true, false, not, eqb, Option, Some, None, is_some, refl, sym}
use Rattle.std.proofs.Common.{arith, ⊎_elim, true≢false}
use Rattle.std.proofs.lemmas.Bool.Decides.{nat_tests}
use Rattle.std.proofs.lemmas.Bool.{not-true, eqb-false}
use Rattle.chip_part.specs.Setting.{Setting}
use Rattle.chip_part.specs.Part.{Part, Cause, is_running}
use Rattle.chip_part.specs.Edges.{graph_edges, all_edges}
use Rattle.chip_part.specs.Rules.{Event, Clear, End, unmet_rule}
use Rattle.chip_part.specs.Kept.{Met}

pub positive : (n : ℕ) → not (eqb n 0) ≡ true → 0 < n
positive n h = let a = eqb-false n 0 (not-true (eqb n 0) h) in Rattle.std.proofs.Common.pos_of_ne-zero a

pub running : (h : Option Cause) → is_running h ≡ true → h ≡ None
running None e = refl
running (Some c) e = absurd (true≢false (sym e))

pub some_of : {A : Type 0} (o : Option A) → is_some o ≡ true → (c : A) × (o ≡ Some c)
some_of None h = absurd (true≢false (sym h))
some_of (Some c) h = (c, refl)

pub is_none_of : {A : Type 0} (o : Option A) → is_some o ≡ false → o ≡ None
is_none_of None off = refl
is_none_of (Some c) off = absurd (true≢false off)

pub rules_met : (g : Setting) (x : Event) (s : Part) → unmet_rule g x s ≡ None → Met g x s
rules_met g End s h = tt
rules_met g _ s h = grind (arith, nat_tests)

pub met_rules : (g : Setting) (x : Event) (s : Part) → Met g x s → unmet_rule g x s ≡ None
met_rules g _ s m = grind (arith, nat_tests)

-- those of a look by a vertex
pub vertex_clear : (g : Setting) (e : ℕ) (s : Part) → e < graph_edges g → unmet_rule g (Clear e) s ≡ None
    → (e < graph_edges g) × (s.halt ≡ None) × ((s.out e).link.refused ≡ false) × (0 < (s.out e).pending)
vertex_clear g e s l may = ⊎_elim (λ v. v) (λ r. (let past = r.0 in absurd (omega arith))) (rules_met g (Clear e) s may)

-- and by the root
pub root_clear : (g : Setting) (e : ℕ) (s : Part) → graph_edges g ≤ e → unmet_rule g (Clear e) s ≡ None
    → (graph_edges g ≤ e) × (e < all_edges g) × (s.ended ≡ false) × ((s.out e).link.held ≡ None)
root_clear g e s past may = ⊎_elim (λ v. (let l = v.0 in absurd (omega arith))) (λ r. r) (rules_met g (Clear e) s may)
