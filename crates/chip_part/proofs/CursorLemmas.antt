-- Serves Rules.antt, Turn.antt, Cursor.antt.
-- What is left of a turn at one cursor, from what is left at another.
use Rattle.std.proofs.Common.{◌≡◌, ◌≢◌, ℕ, zero, suc, ◌+◌, ◌-◌, ◌<◌, ◌≤◌, Bool, true, false, List, [], ◌∷◌, ◌++◌}
use Rattle.std.proofs.Common.{length, drop, slice_index, Option, Some, None, refl, sym, ap, ◌∙◌, subst, arith}
use Rattle.std.proofs.Common.{append-nil}
use Rattle.std.proofs.lemmas.List.{drop_more, append_assoc}
use Rattle.std.proofs.Math.ListN.{drop_of_length-le}
use mathlib.Core.Logic.{dite}
use native.Mathlib.Decide.{dec_lt}
use Rattle.chip_part.specs.Setting.{Setting}
use Rattle.chip_part.specs.Part.{Part}
use Rattle.chip_part.specs.declared.act.Act.{Act}
use Rattle.chip_part.specs.declared.act.Act.TheVariants as Do
use Rattle.chip_part.specs.Rules.{Event, Fire, Halt, Seal, Read, Feed, End, unmet_rule}
use Rattle.chip_part.specs.Steps.{Step, part_of, does, saw}
use Rattle.chip_part.specs.Acting.{act_of, event_of}
use Rattle.chip_part.specs.Turn.{Phase, nothing, either_phase, where_phase, and_then, each_phase, turn}
use Rattle.chip_part.specs.Cursor.{Cursor, rest_of_turn, fuel, GoesBy, IsDueAt, IsUnderWay, IsNext}
use Rattle.chip_part.proofs.EdgeLemmas.{tail_root}
use Rattle.chip_part.proofs.RuleLemmas.{rules_met}

-- ---- phases

-- the first phase does nothing
pub skip : (p q : Phase) (s : Part) → p s [] s → (ds : List Step) (after : Part) → q s ds after
    → and_then p q s ds after
skip p q s idle ds after rest = ([], s, ds, refl, idle, rest)

-- the first phase does one operation, and is over
pub step : (p q : Phase) (s m : Part) (x : Step) → p s (x ∷ []) m → (ds : List Step) (after : Part) → q m ds after
    → and_then p q s (x ∷ ds) after
step p q s m x one ds after rest = (x ∷ [], m, ds, refl, one, rest)

pub either_yes : (b : Bool) (p q : Phase) (s : Part) (ds : List Step) (after : Part) → b ≡ true → p s ds after
    → either_phase b p q s ds after
either_yes true p q s ds after is h = h
either_yes false p q s ds after is h = absurd (cc)

pub either_no : (b : Bool) (p q : Phase) (s : Part) (ds : List Step) (after : Part) → b ≡ false → q s ds after
    → either_phase b p q s ds after
either_no true p q s ds after is h = absurd (cc)
either_no false p q s ds after is h = h

pub where_no : (test : Part → Bool) (p : Phase) (s : Part) → test s ≡ false → where_phase test p s [] s
where_no test p s fails = either_no (test s) p nothing s [] s fails (refl, refl)

pub where_yes : (test : Part → Bool) (p : Phase) (s : Part) (ds : List Step) (after : Part) → test s ≡ true
    → p s ds after → where_phase test p s ds after
where_yes test p s ds after passes h = either_yes (test s) p nothing s ds after passes h

-- ---- phases that visit edges

module _ (p : ℕ → Phase) (es : List ℕ) (q : Phase) where
  -- nothing is left of them past their end
  pub each_over : (place : ℕ) → length es ≤ place → (s : Part) (ds : List Step) (after : Part) → q s ds after
      → and_then (each_phase p (drop place es)) q s ds after
  each_over place over s ds after rest = skip (each_phase p (drop place es)) q s
      (subst (λ (xs : List ℕ). each_phase p xs s [] s) (sym (drop_of_length-le es over)) (refl, refl)) ds after rest

  -- the phase of one edge, and then the rest
  pub each_more : (place : ℕ) → place < length es → (s m : Part) (front ds : List Step) (after : Part)
      → p (slice_index es place) s front m → and_then (each_phase p (drop (place + 1) es)) q m ds after
      → and_then (each_phase p (drop place es)) q s (front ++ ds) after
  each_more place within s m front ds after here (front', m', back, is, more, rest) =
      subst (λ (xs : List ℕ). and_then (each_phase p xs) q s (front ++ ds) after) (sym (drop_more es place 0 within)) (
        front ++ front',
        m',
        back,
        ap (λ (xs : List Step). front ++ xs) is
            ∙ sym (append_assoc front front' back),
        (front, m, front', refl, here, more),
        rest,
      )

  -- edges without operations are passed over
  each_skip : (n place next : ℕ) → place + n ≡ next → next ≤ length es → (s : Part)
      → ((k : ℕ) → place ≤ k → k < next → p (slice_index es k) s [] s)
      → (ds : List Step) (after : Part) → and_then (each_phase p (drop next es)) q s ds after
      → and_then (each_phase p (drop place es)) q s ds after
  each_skip zero place next is within s idle ds after rest = subst (λ (k : ℕ). and_then (each_phase p (drop k es)) q s ds after)
      (let z : next ≡ place = omega arith in z) rest
  each_skip (suc n) place next is within s idle ds after rest =
      each_more place (omega arith) s s [] ds after (idle place (omega arith) (omega arith))
      (each_skip n (place + 1) next (omega arith) within s (λ k le lt. idle k (omega arith) lt) ds after rest)

  -- up to a place
  pub each_to : (place next : ℕ) → place ≤ next → next ≤ length es → (s : Part)
      → ((k : ℕ) → place ≤ k → k < next → p (slice_index es k) s [] s)
      → (ds : List Step) (after : Part) → and_then (each_phase p (drop next es)) q s ds after
      → and_then (each_phase p (drop place es)) q s ds after
  each_to place next le within = each_skip (next - place) place next (omega arith) within

  -- to their end
  pub each_none : (place : ℕ) (s : Part) → ((k : ℕ) → place ≤ k → k < length es → p (slice_index es k) s [] s)
      → (ds : List Step) (after : Part) → q s ds after → and_then (each_phase p (drop place es)) q s ds after
  each_none place s idle ds after rest = dite (dec_lt place (length es))
      (λ l. each_to place (length es) (omega arith) (omega arith) s idle ds after
      (each_over (length es) (omega arith) s ds after rest))
      (λ n. each_over place (omega arith) s ds after rest)

-- ---- cursors

-- the turn is at a later cursor as well, with nothing done
pub record Passes (g : Setting) (v : ℕ) (s : Part) (cursor next : Cursor) : Type 0 where
  pub fewer : fuel g v next ≤ fuel g v cursor
  pub rest : (ds : List Step) (after : Part) → rest_of_turn g v next s ds after → rest_of_turn g v cursor s ds after

pub passes_due : (g : Setting) (v : ℕ) (s : Part) (cursor next : Cursor) → Passes g v s cursor next
    → (due : Option (Event × Cursor)) → IsDueAt g v s next due → IsDueAt g v s cursor due
passes_due g v s cursor next passes None over = passes.rest [] s over
passes_due g v s cursor next passes (Some due) goes = record {
  mine = goes.mine;
  met = goes.met;
  fewer = (let a = passes.fewer in let b = goes.fewer in omega arith);
  fits = goes.fits;
  rest = λ seen ds after h. passes.rest (saw due.0 seen ∷ ds) after (goes.rest seen ds after h);
}

-- ---- operations

-- an operation of a vertex determines its event
module _ (g : Setting) (v : ℕ) (vertex : v < g.game.graph.vertices) (s : Part) where
  pub event_of_act : (x : Event) → part_of g x ≡ v → unmet_rule g x s ≡ None → event_of v (act_of g x s) ≡ x
  event_of_act (Fire w k) mine met = ap (λ (n : ℕ). Fire n k) (sym mine)
  event_of_act (Halt w) mine met = ap Halt (sym mine)
  event_of_act (Seal e) mine met = absurd (omega arith)
  event_of_act (Read w) mine met = absurd (omega arith)
  event_of_act (Feed e k) mine met = let past = rules_met g (Feed e k) s met in let at = tail_root g e past.0 in
      absurd (omega arith)
  event_of_act End mine met = absurd (omega arith)
  event_of_act _ mine met = refl

  pub act_is_some : (x : Event) → part_of g x ≡ v → act_of g x s ≢ Do.End
  act_is_some (Seal e) mine = λ is. absurd (omega arith)
  act_is_some (Read w) mine = λ is. absurd (omega arith)
  act_is_some _ mine = λ is. absurd (cc)

  module _ (cursor next : Cursor) (x : Event) (goes : GoesBy g v s cursor x next) (first : Part) (done : List Step)
      (way : IsUnderWay g v first done cursor s) where
    under_way : (seen : ℕ) → IsUnderWay g v first (done ++ saw x seen ∷ []) next
        (does g (saw x seen) s)
    under_way seen = record {
      fits = goes.fits seen;
      rest = λ ds after h. subst (λ (xs : List Step). turn g v first xs after)
          (sym (append_assoc done (saw x seen ∷ []) ds))
          (way.rest (saw x seen ∷ ds) after (goes.rest seen ds after h));
    }

    pub is_next : (act : Act) → act ≡ act_of g x s → IsNext g v first done s cursor act next
    is_next act is =
        let told : event_of v act ≡ x = ap (event_of v) is ∙ event_of_act x goes.mine goes.met in
        let all = subst (λ (y : Event). (part_of g y ≡ v) × (unmet_rule g y s ≡ None) × (act ≡ act_of g y s)
        × ((seen : ℕ) → IsUnderWay g v first (done ++ saw y seen ∷ []) next
        (does g (saw y seen) s)))
        (sym told) (goes.mine, goes.met, is, under_way) in
        record { mine = all.0; met = all.1; needed = all.2; fewer = goes.fewer; goes_on = all.3 }

-- a turn is over if nothing is left
pub is_over : (g : Setting) (v : ℕ) (s : Part) (cursor : Cursor) → rest_of_turn g v cursor s [] s
    → (first : Part) (done : List Step) → IsUnderWay g v first done cursor s → turn g v first done s
is_over g v s cursor over first done way = subst (λ (xs : List Step). turn g v first xs s) (append-nil done)
    (way.rest [] s over)
