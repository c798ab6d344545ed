-- Serves Crew.antt, Ledger.antt.
-- A turn takes once from the root edge of its vertex, and the ledger of a worker has its turns.
use Rattle.chip_crew.proofs.Names.{◌≡◌, ℕ, zero, suc, ◌+◌, ◌<◌, ◌≤◌, ◌==◌, List, Option, Some, None, refl, ap}
use Rattle.chip_crew.proofs.Names.{arith, false, ne_eqb, [], ◌∷◌, ◌++◌, All, cond, drop, sum_by, nat_tests, All-tail}
use Rattle.chip_crew.proofs.Names.{All-head, sum_by-append, sum_by-cons, sum_by_push, All-picked, edge_at, edges_in}
use Rattle.chip_crew.proofs.Names.{from_settling, root_edge, graph_edges, Part, Take, Setting, saw, Phase, and_then}
use Rattle.chip_crew.proofs.Names.{each_phase, one_step, ins_of, outs_of, sending, turn, sending_all, Step, Event}
use Rattle.chip_crew.proofs.Names.{Settle, ActorKnown, MakesTurn, part_known, Turn, turns_of, is_root_take, got_turns}
use Rattle.chip_crew.proofs.Names.{gave_turns, HasJust, IsNextActor, EndsTurn, TurnsMade, kept_turns, Ledger}

module _ (g : Setting) (v : ℕ) where
  abbrev take_count : Step → ℕ
  take_count x = cond (is_root_take g v x.event) 1 0

  abbrev takes_in : List Step → ℕ
  takes_in ds = sum_by take_count ds

  -- no such phase takes from the root edge
  abbrev TakesNone : Phase → Type 0
  TakesNone p = (s : Part) (ds : List Step) (t : Part) → p s ds t → takes_in ds ≡ 0

  none_then : (p q : Phase) → TakesNone p → TakesNone q → TakesNone (and_then p q)
  none_then p q one other s ds t (front, m, back, is, here, rest) =
      let a = one s front m here in let b = other m back t rest in let c = ap takes_in is in
      let d = sum_by-append take_count front back in omega arith

  none_each : (p : ℕ → Phase) → ((e : ℕ) → TakesNone (p e)) → (es : List ℕ) → TakesNone (each_phase p es)
  none_each p one [] = λ s ds t phase. ap takes_in phase.0
  none_each p one (e ∷ es) = none_then (p e) (each_phase p es) (one e) (none_each p one es)

  none_step : (x : Event) → is_root_take g v x ≡ false → TakesNone (one_step g v x)
  none_step x other s ds t phase = grind (arith, nat_tests)

  none_sending : TakesNone (sending_all g v)
  none_sending s ds t phase =
      let each = none_each (sending g v) (λ e s ds t phase. grind (arith, nat_tests)) (outs_of g v) s ds t in
      grind (arith, nat_tests)

  -- what comes after the takes
  none_later : TakesNone (from_settling g v 0)
  none_later = none_then _ _ (none_each _ (λ e. none_step (Settle e) refl) (outs_of g v))
      (none_then _ _ (λ s ds t phase. grind (arith, nat_tests))
      (none_then _ _ (none_each _ (λ e s ds t phase. grind (arith, nat_tests)) (outs_of g v))
      (none_then _ _ none_sending (none_then _ _ (λ s ds t phase. grind (arith, nat_tests))
      (none_then _ _ (none_each _ (λ e s ds t phase. grind (arith, nat_tests)) (ins_of g v))
      (λ s ds t phase. grind (arith, nat_tests)))))))

  -- one take is from the root edge, after those of these graph edges
  one_take : (es : List ℕ) → All (λ e. e < graph_edges g) es → (s : Part) (ds : List Step) (t : Part)
      → each_phase (λ e. one_step g v (Take e)) (es ++ root_edge g v ∷ []) s ds t → takes_in ds ≡ 1
  one_take [] all s ds t (front, m, back, is, (seen, rest, now, none), last) =
      let a = sum_by-append take_count front back in
      let b = sum_by-cons take_count (saw (Take (root_edge g v)) seen) rest in grind (arith, nat_tests)
  one_take (e ∷ es) all s ds t (front, m, back, is, here, rest) =
      let within = All-head (λ i. i < graph_edges g) e es all in
      let a = none_step (Take e) (ne_eqb e (root_edge g v) (omega arith)) s front m here in
      let b = one_take es (All-tail (λ i. i < graph_edges g) e es all) m back t rest in
      let c = ap takes_in is in let d = sum_by-append take_count front back in omega arith

  takes_once : (s : Part) (ds : List Step) (t : Part) → turn g v s ds t → takes_in ds ≡ 1
  takes_once s ds t (front, m, back, is, here, rest) =
      let a = one_take (edges_in g.game.graph v)
      (All-picked (λ i. (edge_at g.game.graph i).head == v) (graph_edges g) (graph_edges g) (omega arith)) s front m here in
      let b = none_later m back t rest in let c = ap takes_in is in
      let d = sum_by-append take_count front back in omega arith

-- a turn more is one more
pub turn_counts : (old new : ActorKnown) (answer : Turn) → MakesTurn old new answer → turns_of new ≡ suc (turns_of old)
turn_counts old new answer makes =
    let g = old.net.setting in let both = sum_by-append (take_count g old.vertex) old.did makes.steps in
    let one = takes_once g old.vertex (part_known old) makes.steps (part_known new) makes.is_turn in
    let now = ap turns_of makes.record_is in omega arith

-- ---- by the queue

-- after k turns a worker has the actor that it kept, and no other, and at most k turns were made of those it had
abbrev AreMade : ℕ → Ledger → Option ActorKnown → Type 0
AreMade k l kept = HasJust l kept × (gave_turns l + kept_turns kept ≤ got_turns l + k)

made_next : (k : ℕ) (old new : Ledger) (kept next : Option ActorKnown) → IsNextActor old new kept next → AreMade k old kept
    → AreMade k new next
made_next k old new (Some a) next is made = rw (is.0, is.1) made
made_next k old new None (Some a) is made = rw is (
  (made.0.0, rw made.0.1 refl),
  omega (arith, sum_by_push turns_of),
)
made_next k old new None None is made = rw is made

made_end : (k : ℕ) (old new : Ledger) (next kept : Option ActorKnown) → EndsTurn old new next kept → AreMade k old next
    → AreMade (suc k) new kept
made_end k old new (Some a) None (after, answer, turn, is) made = rw is (
  (made.0.0, ap (drop 1) made.0.1),
  (let one = turn_counts a after answer turn in omega (arith, sum_by_push turns_of)),
)
made_end k old new (Some a) (Some b) (after, answer, turn, (same, is)) made = rw (same, is) (
  (made.0.0, rw turn.record_is made.0.1),
  (let one = turn_counts a after answer turn in omega arith),
)
made_end k old new None kept (is, none) made = rw (is, none) (made.0, omega arith)

pub are_made : (passes : ℕ → Type 0) (k : ℕ) (ledger : Ledger) (kept : Option ActorKnown)
    → TurnsMade passes k ledger kept → AreMade k ledger kept
are_made passes zero ledger kept (begins, none) = rw (begins, none) ((refl, refl), omega arith)
are_made passes (suc k) ledger kept (before, was, made, lets, (between, next, is_next, ends)) =
    made_end k between ledger next kept ends
    (made_next k before between was next is_next (are_made passes k before was made))
