-- Serves Actor.antt, Ends.antt.
-- What an actor finds in its own lists is what its part says.
use Rattle.chip_actor.proofs.Names.{refl, nat_tests, ◌≡◌, ℕ, ◌<◌, Bool, false, not, cond, eqb, List, length}
use Rattle.chip_actor.proofs.Names.{slice_index, Option, Some, None, is_some, option_to_list, option_map, arith}
use Rattle.chip_actor.proofs.Names.{Setting, claim_words, put_of, tail_of, head_of, Part, may_ack_on, out_on}
use Rattle.chip_actor.proofs.Names.{IsFirstFrom, Actor, StandsFor, is_passive_now, out_end, out_at, in_enters}
use Rattle.chip_actor.proofs.Names.{out_leaves}
use Rattle.chip_part.specs.Turn.{ins_of, outs_of}
use Rattle.chip_actor.proofs.StandingLemmas.{may_ack_is}
use Rattle.chip_detect.specs.Acknowledging as detector

-- by an equal test the first place is the same
first_same : (t u : ℕ → Bool) (xs : List ℕ) → ((k : ℕ) → k < length xs → t (slice_index xs k) ≡ u (slice_index xs k))
    → (from : ℕ) (r : Option ℕ) → IsFirstFrom t xs from r → IsFirstFrom u xs from r
first_same t u xs same from None none = λ k le lt. rw (← same k lt) (none k le lt)
first_same t u xs same from (Some i) (le, lt, passes, none) =
    (le, lt, rw (← same i lt) passes, λ k a b. rw (← same k (omega arith)) (none k a b))

is_some_map : (o : Option ℕ) (f : ℕ → ℕ × ℕ) → is_some (option_map f o) ≡ is_some o
is_some_map o f = grind (arith, nat_tests)

is_some_where : (b : Bool) (x : ℕ × ℕ) → is_some (cond b (Some x) None) ≡ b
is_some_where b x = grind (arith, nat_tests)

module _ (g : Setting) (s : Part) (a : Actor) (stands : StandsFor g s a) where
  pub held_is : (e : ℕ) → tail_of g e ≡ a.vertex → is_some (put_of (out_on a.outs e).link) ≡ is_some (s.out e).link.held
  held_is e at = rw (stands.outs e at) (is_some_map (s.out e).link.held _)

  pub pending_is : (e : ℕ) → tail_of g e ≡ a.vertex → (out_on a.outs e).pending ≡ (s.out e).pending
  pending_is e at = rw (stands.outs e at) refl

  -- the edge at a place of those out of it
  pub out_at_place : (b : Actor) → b ≡ a → (place : ℕ) → place < length (outs_of g a.vertex)
      → out_on b.outs (slice_index b.outs.edges place)
      ≡ out_end g (out_at g a.vertex place) (s.out (out_at g a.vertex place))
  out_at_place b same place within =
      let out = stands.outs (out_at g a.vertex place) (out_leaves g a.vertex place within) in
      let edges = stands.knows.outs in cc

  pub held_at_place : (b : Actor) → b ≡ a → (place : ℕ) → place < length (outs_of g a.vertex)
      → is_some (put_of (out_on b.outs (slice_index b.outs.edges place)).link)
      ≡ is_some (s.out (out_at g a.vertex place)).link.held
  held_at_place b same place within =
      rw (out_at_place b same place within) (is_some_map (s.out (out_at g a.vertex place)).link.held _)

  pub clear_at_place : (b : Actor) → b ≡ a → (place : ℕ) → place < length (outs_of g a.vertex)
      → is_some (claim_words (out_on b.outs (slice_index b.outs.edges place)).link)
      ≡ (s.out (out_at g a.vertex place)).link.clear
  clear_at_place b same place within =
      rw (out_at_place b same place within) (is_some_where (s.out (out_at g a.vertex place)).link.clear _)

  leaves : (k : ℕ) → k < length a.outs.edges → tail_of g (slice_index a.outs.edges k) ≡ a.vertex
  leaves k l = rw stands.knows.outs (out_leaves g a.vertex k (rw (← stands.knows.outs) l))

  pub first_held : (b : Actor) → b ≡ a → (from : ℕ) (r : Option ℕ)
      → IsFirstFrom (λ e. is_some (put_of (out_on b.outs e).link)) b.outs.edges from r
      → IsFirstFrom (λ e. is_some (s.out e).link.held) (outs_of g a.vertex) from r
  first_held b same from r found =
      rw (← stands.knows.outs) (first_same (λ e. is_some (put_of (out_on a.outs e).link))
      (λ e. is_some (s.out e).link.held) a.outs.edges (λ k l. held_is _ (leaves k l)) from r (rw same at found))

  pub first_pending : (b : Actor) → b ≡ a → (from : ℕ) (r : Option ℕ)
      → IsFirstFrom (λ e. not (eqb (out_on b.outs e).pending 0)) b.outs.edges from r
      → IsFirstFrom (λ e. not (eqb (s.out e).pending 0)) (outs_of g a.vertex) from r
  first_pending b same from r found =
      rw (← stands.knows.outs) (first_same (λ e. not (eqb (out_on a.outs e).pending 0))
      (λ e. not (eqb (s.out e).pending 0)) a.outs.edges
      (λ k l. rw (pending_is (slice_index a.outs.edges k) (leaves k l)) refl) from r (rw same at found))

  pub first_owed : (from : ℕ) (r : Option ℕ)
      → IsFirstFrom (λ e. not (eqb (detector.may_ack a.detect e (is_passive_now a)) 0)) a.ins.edges from r
      → IsFirstFrom (λ e. not (eqb (may_ack_on g (head_of g e) s e) 0)) (ins_of g a.vertex) from r
  first_owed from r first =
      first_same (λ e. not (eqb (detector.may_ack a.detect e (is_passive_now a)) 0))
      (λ e. not (eqb (may_ack_on g (head_of g e) s e) 0)) (ins_of g a.vertex)
      (λ k l. rw (may_ack_is g s a stands (slice_index (ins_of g a.vertex) k) (in_enters g a.vertex k l)) refl) from r
      (rw stands.knows.ins at first)

  -- if nothing is claimed and not put, or nothing is pending, no edge has anything
  pub none_held : a.unput ≡ 0 → (k : ℕ) → k < length (outs_of g a.vertex)
      → is_some (s.out (out_at g a.vertex k)).link.held ≡ false
  none_held none k within =
      let e : ℕ = out_at g a.vertex k in
      let inside = Rattle.chip_part.proofs.TurnStepsLemmas.out_inside g a.vertex k within in
      let nothing = Rattle.chip_part.proofs.PartLemmas.out_zero g a.vertex
      (λ i. length (option_to_list (s.out i).link.held)) (rw (← stands.unput) none) e (omega arith)
      (out_leaves g a.vertex k within) in grind (arith, nat_tests)

  pub none_pending : a.pending ≡ 0 → (k : ℕ) → k < length (outs_of g a.vertex)
      → not (eqb (s.out (out_at g a.vertex k)).pending 0) ≡ false
  none_pending none k within =
      let e : ℕ = out_at g a.vertex k in
      let inside = Rattle.chip_part.proofs.TurnStepsLemmas.out_inside g a.vertex k within in
      rw (Rattle.chip_part.proofs.PartLemmas.out_zero g a.vertex (λ i. (s.out i).pending) (rw (← stands.pending) none) e
      (omega arith) (out_leaves g a.vertex k within)) refl
