-- Serves Rounds.antt.
-- The steps of a whole turn are those of its vertex.
use Rattle.chip_world.proofs.Names.{nat_tests, arith, ◌≡◌, ℕ, Bool, true, false, not, cond, eqb, List, [], ◌∷◌, ◌++◌}
use Rattle.chip_world.proofs.Names.{reverse, Option, Some, None, refl, sym}
use Rattle.chip_world.proofs.Names.{reverse_onto, append_assoc, by_test, cond_yes, Setting}
use Rattle.chip_world.proofs.Names.{head_of, Part, may_ack_on}
use Rattle.chip_world.proofs.Names.{Event, Take, Ack, Step, part_of, does, saw, parent_after, Phase, nothing}
use Rattle.chip_world.proofs.Names.{either_phase, seeing, one_step, acknowledging_parent, last_acknowledgement, turn}
use Rattle.chip_world.proofs.Names.{AreOf, Log, done_by, Spreads, of_turn}

module _ (g : Setting) (v : ℕ) where
  -- its parent edge, if it has one, leads to it
  HasOwnParent : Part → Type 0
  HasOwnParent s = (e : ℕ) → s.parent ≡ Some e → head_of g e ≡ v

  abbrev Own : Phase → Type 0
  Own p = (s : Part) (ds : List Step) (t : Part) → HasOwnParent s → p s ds t → AreOf g v ds × HasOwnParent t

  both_of : (xs ys : List Step) → AreOf g v xs → AreOf g v ys → AreOf g v (xs ++ ys)
  both_of [] ys some other = other
  both_of (x ∷ xs) ys some other = (some.0, both_of xs ys some.1 other)

  -- no event of its own gives it a parent edge that leads elsewhere
  parent_stays : (x : Event) (seen : ℕ) (s : Part) → part_of g x ≡ v → HasOwnParent s
      → (e : ℕ) → parent_after g x seen s ≡ Some e → head_of g e ≡ v
  unfolding HasOwnParent
  parent_stays (Take i) seen s by mine e is = let own = mine e in grind (arith, nat_tests)
  parent_stays (Ack i) seen s by mine e is = either _ is
    where
      either : (b : Bool) → cond b None s.parent ≡ Some e → head_of g e ≡ v
      either true none = absurd (cc)
      either false was = mine e was
  parent_stays _ seen s by mine e is = mine e is

  own_event : (x : Event) → part_of g x ≡ v → (next : ℕ → Part → Phase) → ((seen : ℕ) (before : Part) → Own (next seen before))
      → Own (seeing g v x next)
  unfolding HasOwnParent
  own_event x by next more s ds t mine (seen, rest, is, last) =
      let after = more seen s (does g (saw x seen) s) rest t (parent_stays x seen s by mine) last in
      (rw is (by, after.0), after.1)

  own_nothing : Own nothing
  own_nothing s ds t mine (none, same) = (rw none tt, rw same mine)

  own_parent : (parent : Option ℕ) → ((e : ℕ) → parent ≡ Some e → head_of g e ≡ v) → Own (acknowledging_parent g v parent)
  own_parent None by s = own_nothing s
  own_parent (Some e) by s = either (not (eqb (may_ack_on g (head_of g e) s e) 0)) s
    where
      either : (b : Bool) → Own (either_phase b (one_step g v (Ack e)) nothing)
      either true = own_event (Ack e) (by e refl) (λ seen before. nothing) (λ seen before. own_nothing)
      either false = own_nothing

  own_last : Own (last_acknowledgement g v)
  unfolding HasOwnParent
  own_last s ds t mine ph = own_parent s.parent mine s ds t mine ph

  own : Spreads g v Own
  own = record {
    none = own_nothing;
    chosen = λ p all s. all s s;
    both = λ p q some other s ds t mine (front, m, back, is, here, rest).
        let a = some s front m mine here in
        let b = other m back t a.1 rest in
        (rw is (both_of front back a.0 b.0), b.1);
    event = own_event;
    last = own_last;
  }

  -- every step of a turn is its vertex's
  pub turn_is_own : (s : Part) (ds : List Step) (t : Part) → ((e : ℕ) → s.parent ≡ Some e → head_of g e ≡ v)
      → turn g v s ds t → AreOf g v ds
  unfolding HasOwnParent
  turn_is_own s ds t mine ph = (of_turn g v Own own s ds t mine ph).0

  done-append : (xs ys : Log) → done_by g v (xs ++ ys) ≡ done_by g v ys ++ done_by g v xs
  done-append [] ys = sym (Rattle.std.proofs.Common.append-nil (done_by g v ys))
  done-append (x ∷ xs) ys = let rest = done-append xs ys in by_test (eqb (part_of g x.event) v)
      (λ yes. rw (yes, rest, append_assoc)) (λ no. rw no rest)

  -- made in order, they are the steps of the vertex
  pub done_turn : (ds : List Step) → AreOf g v ds → done_by g v (reverse ds) ≡ ds
  done_turn [] mine = refl
  done_turn (x ∷ xs) mine = rw (
    reverse_onto xs x [],
    done-append (reverse xs) (x ∷ []),
    done_turn xs mine.1,
    cond_yes (part_of g x.event) v ([] ++ x ∷ []) [] mine.0,
  )
