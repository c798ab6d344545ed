-- Serves Places.antt, Ledger.antt.
-- Operations on the queue keep its rule, and what follows from the rule.
use Rattle.chip_crew.proofs.Names.{◌≡◌, ℕ, zero, suc, ◌+◌, ◌<◌, ◌≤◌, ◌==◌, List, length, set, refl, sym, ap}
use Rattle.chip_crew.proofs.Names.{arith, add-one, [], ◌∷◌, All, map, cond, drop, sum_by, length-append}
use Rattle.chip_crew.proofs.Names.{nat_tests, All-tail, All-head, All-push, All-set, All-cons, All-nil, All-drop}
use Rattle.chip_crew.proofs.Names.{length-range_with_len, sum_by-append, sum_by-cons, sum_by_push, sum_by-take-drop}
use Rattle.chip_crew.proofs.Names.{range_with_len, set_else, drop_at, Pushes, Pops, Forks, Merges, Learns, Held}
use Rattle.chip_crew.proofs.Names.{get_elem?, some, some-injective, some-ne-none, ActorKnown, CrewId, IsOurs, AreFrom}
use Rattle.chip_crew.proofs.Names.{turns_of, got_turns, gave_turns, first_ledger, new_ledger, with_fewer, both_ledgers}
use Rattle.chip_crew.proofs.Names.{no_ledger, with_actor, with_put, times, AreAllThere, HasNothing, AreShared, HaveRoom}
use Rattle.chip_crew.proofs.Names.{Ledger}

-- ---- what is counted

-- a vertex, and the actors of a vertex
abbrev pub is_it : ℕ → ℕ → ℕ
is_it v u = cond (u == v) 1 0

abbrev pub is_of : ℕ → ActorKnown → ℕ
is_of v a = cond (a.vertex == v) 1 0

-- the actors of a thread, and the workers for which it speaks
abbrev has_count : Ledger → ℕ
has_count l = length l.has

abbrev workers_of : Ledger → ℕ
workers_of l = l.workers

abbrev IsSpent : Ledger → Type 0
IsSpent l = l.workers ≡ 0 → HasNothing l

-- ---- sums over all ledgers

module _ {X : Type 0} (f : X → ℕ) where
  -- one changes
  sum_set : (xs : List X) (i : ℕ) (x w : X) → get_elem? xs i ≡ some x
      → sum_by f (set xs i w) + f x ≡ sum_by f xs + f w
  sum_set [] i x w at = absurd (some-ne-none x (sym at))
  sum_set (y ∷ ys) zero x w at = let c = ap f (some-injective y x at) in omega (arith, sum_by-cons f)
  sum_set (y ∷ ys) (suc i) x w at = let c = sum_set ys i x w at in omega (arith, sum_by-cons f)

  -- each is part of it
  sum_least : (xs : List X) (i : ℕ) (x : X) → get_elem? xs i ≡ some x → f x ≤ sum_by f xs
  sum_least xs i x at = let a = sum_by-take-drop f xs i in let b = ap (sum_by f) (drop_at xs i x at) in
      omega (arith, sum_by-cons f)

all_at : {X : Type 0} (P : X → Type 0) (xs : List X) (i : ℕ) (x : X) → All P xs → get_elem? xs i ≡ some x → P x
all_at {X} P xs i x all at = All-head P x (drop (suc i) xs) (rw (drop_at xs i x at) at (All-drop {X = X} P i xs all))

module _ (f : Ledger → ℕ) (nothing : (l : Ledger) → HasNothing l → f l ≡ 0) where
  -- a ledger that speaks for no worker adds nothing
  none_adds : (ls : List Ledger) → sum_by workers_of ls ≡ 0 → All IsSpent ls → sum_by f ls ≡ 0
  none_adds [] none spent = refl
  none_adds (l ∷ ls) none spent =
      let both = sum_by-cons workers_of l ls in
      let here = nothing l (All-head IsSpent l ls spent (omega arith)) in
      let rest = none_adds ls (omega arith) (All-tail IsSpent l ls spent) in omega (arith, sum_by-cons f)

  -- one that speaks for all workers is all of it
  one_adds : (ls : List Ledger) (i : ℕ) (l : Ledger) → get_elem? ls i ≡ some l → sum_by workers_of ls ≡ l.workers
      → All IsSpent ls → sum_by f ls ≡ f l
  one_adds ls i l at all spent =
      let a = sum_set workers_of ls i l no_ledger at in let b = sum_set f ls i l no_ledger at in
      let rest = none_adds (set ls i no_ledger) (omega arith)
      (All-set IsSpent ls i no_ledger (λ none. (refl, refl, refl)) spent) in
      let none = nothing no_ledger (refl, refl, refl) in omega arith

module _ (crew : CrewId) where
  -- ---- what keeps the rule

  -- an actor goes in, the first of those that the thread had
  pub puts : (n pass : ℕ) (v : Ledger) (x : ActorKnown) (rest : List ℕ) → IsOurs crew x → v.has ≡ x.vertex ∷ rest
      → Pushes (AreShared crew) n pass v x (λ w. IsOurs crew x × (w ≡ with_put v x))
  puts n pass v x rest ours first queued ledgers room old at =
      let moves = λ (f : Ledger → ℕ). sum_set f ledgers pass v (with_put v x) at in
      let left : drop 1 v.has ≡ rest = ap (drop 1) first in (
        with_put v x,
        record {
          ours = All-push (IsOurs crew) queued x old.ours ours;
          once = λ u less. (let a = old.once u less in let d = ap (times u) first in let f = ap (times u) left in
              omega (arith, moves, sum_by_push (is_of u), sum_by-cons (is_it u)));
          count = (let c = ap length first in let d = ap length left in
              omega (arith, moves, length-append {A = ActorKnown}));
          workers = omega (arith, moves);
          turns = omega (arith, moves, sum_by_push turns_of);
          spent = All-set IsSpent ledgers pass (with_put v x)
              (λ none. absurd (let empty = (all_at IsSpent ledgers pass v old.spent at none).0 in cc)) old.spent;
        },
        (ours, refl),
      )

  -- an actor comes out, and the thread did not have all of them
  pub takes : (pass : ℕ) (v : Ledger) → 0 < v.workers → Pops (AreShared crew) pass v
      (λ x w. IsOurs crew x × (length v.has < crew.net.setting.game.graph.vertices) × (w ≡ with_actor v x))
  takes pass v speaks x queued ledgers old at =
      let moves = λ (f : Ledger → ℕ). sum_set f ledgers pass v (with_actor v x) at in (
        with_actor v x,
        record {
          ours = All-tail (IsOurs crew) x queued old.ours;
          once = λ u less. (let a = old.once u less in
              omega (arith, moves, sum_by-cons (is_of u), sum_by_push (is_it u)));
          count = omega (arith, moves, length-append {A = ℕ});
          workers = omega (arith, moves);
          turns = omega (arith, moves, sum_by-cons turns_of, sum_by_push turns_of);
          spent = All-set IsSpent ledgers pass (with_actor v x) (λ none. absurd (omega arith)) old.spent;
        },
        (
          All-head (IsOurs crew) x queued old.ours,
          (let a = sum_least has_count ledgers pass v at in omega arith),
          refl,
        ),
      )

  -- a worker gets a ledger
  pub forks : (pass : ℕ) (v : Ledger) → 0 < v.workers → HasNothing v
      → Forks (AreShared crew) pass v (with_fewer v) new_ledger
  forks pass v speaks empty queued ledgers old at =
      let now = set ledgers pass (with_fewer v) in
      let moves = λ (f : Ledger → ℕ). sum_set f ledgers pass v (with_fewer v) at in
      let more = λ (f : Ledger → ℕ). sum_by_push f now new_ledger in
      record {
        ours = old.ours;
        once = λ u less. (let a = old.once u less in omega (arith, moves, more));
        count = omega (arith, moves, more);
        workers = omega (arith, moves, more);
        turns = omega (arith, moves, more);
        spent = All-push IsSpent now new_ledger (All-set IsSpent ledgers pass (with_fewer v) (λ none. empty) old.spent)
            (λ none. (refl, refl, refl));
      }

  -- and gives it back
  pub merges : (pass : ℕ) (v : Ledger) (other : ℕ) (u : Ledger)
      → Merges (AreShared crew) pass v other u (both_ledgers v u) no_ledger
  merges pass v other u queued ledgers old at apart there =
      let w : Ledger = both_ledgers v u in
      let now = set ledgers pass w in
      let moves = λ (f : Ledger → ℕ). sum_set f ledgers pass v w at in
      let spends = λ (f : Ledger → ℕ). sum_set f now other u no_ledger there in
      let got = sum_by-append turns_of v.taken u.taken in let gave = sum_by-append turns_of v.put u.put in
      record {
        ours = old.ours;
        once = λ a less. (let one = old.once a less in omega (arith, moves, spends, sum_by-append (is_it a)));
        count = omega (arith, moves, spends, length-append {A = ℕ});
        workers = omega (arith, moves, spends);
        turns = omega (arith, moves, spends);
        spent = All-set IsSpent now other no_ledger (λ none. (refl, refl, refl)) (All-set IsSpent ledgers pass w
            (λ none. let one = all_at IsSpent ledgers pass v old.spent at (omega arith) in
            let two = all_at IsSpent ledgers other u old.spent (rw (set_else ledgers pass other w apart)
            at there) (omega arith) in
            (rw (one.0, two.0) refl, omega arith, omega arith)) old.spent);
      }

  -- ---- what follows from the rule

  pub all_there : (pass : ℕ) (v : Ledger) → Learns (AreShared crew) pass v (AreAllThere crew v)
  all_there pass v queued ledgers old at all =
      let one = λ (f : Ledger → ℕ) (none : (l : Ledger) → HasNothing l → f l ≡ 0).
      one_adds f none ledgers pass v at (omega arith) old.spent in (
        (let a = one has_count (λ l none. ap length none.0) in omega arith),
        (let a = one got_turns (λ l none. none.1) in let b = one gave_turns (λ l none. none.2) in omega arith),
        λ u less. (let a = old.once u less in let b = one (λ (l : Ledger). times u l.has) (λ l none. ap (times u) none.0) in omega arith),
      )

  pub have_room : (pass : ℕ) (v : Ledger) → Learns (AreShared crew) pass v (HaveRoom crew v)
  have_room pass v queued ledgers old at = let a = sum_least has_count ledgers pass v at in omega arith

  -- a thread that found the queue empty knows that it has no actors
  pub none_queued : (l : Ledger) → Held 0 (AreAllThere crew l) → AreAllThere crew l []
  none_queued l ([], empty, there) = there
  none_queued l (a ∷ rest, empty, there) = absurd (omega arith)

  -- ---- the start

  -- each number is there once, and none that is less
  numbers_once : (from k v : ℕ) → (v < from → times v (range_with_len from k) ≡ 0)
      × (from ≤ v → v < from + k → times v (range_with_len from k) ≡ 1)
  numbers_once from zero v = (λ less. refl, λ least less. absurd (omega arith))
  numbers_once from (suc k) v =
      let rest = numbers_once (from + 1) k v in
      let both = sum_by-cons (is_it v) from (range_with_len (from + 1) k) in
      (λ less. grind (arith, nat_tests), λ least less. grind (arith, nat_tests))

  -- the calling thread has all actors
  pub begins : 0 < crew.workers → AreShared crew [] (first_ledger crew ∷ [])
  begins speaks =
      let n = crew.net.setting.game.graph.vertices in
      record {
        ours = All-nil (IsOurs crew);
        once = λ v less. (let a = (numbers_once 0 n v).1 (omega arith) (omega arith) in omega arith);
        count = (let a = length-range_with_len 0 n in omega arith);
        workers = omega arith;
        turns = omega arith;
        spent = All-cons IsSpent (first_ledger crew) [] (λ none. absurd (omega arith)) (All-nil IsSpent);
      }

  -- these are the vertices of the actors in their order
  pub numbers_are : (from : ℕ) (actors : List ActorKnown) → AreFrom crew from actors
      → range_with_len from (length actors) ≡ map (λ (a : ActorKnown). a.vertex) actors
  numbers_are from [] are = refl
  numbers_are from (a ∷ rest) are = rw (are.0.1, add-one, numbers_are (suc from) rest are.1) refl
