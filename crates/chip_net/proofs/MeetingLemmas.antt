-- Serves Meeting.antt, Rule.antt.
-- A look changes nothing, and actors lend their parts in turn.
use Rattle.chip_net.proofs.Names.{◌≡◌, ℕ, zero, suc, ◌+◌, ◌-◌, ◌<◌, List, [], ◌∷◌, ◌++◌, length, map, take, drop, set}
use Rattle.chip_net.proofs.Names.{get_or, Some, refl, sym, arith, append-nil, length-append, slice_get}
use Rattle.chip_net.proofs.Names.{take-length, drop-length, set-get_or, length-map, length-take-le, take-append-drop}
use Rattle.chip_net.proofs.Names.{get_or-append_right, get_or-drop, map_over_more, slice_get-get_or}
use Rattle.chip_net.proofs.Names.{get_or_from_slice_get, keeps, Allows, set_again, Setting, Mine}
use Rattle.chip_net.proofs.Names.{Kept, Looks, NetId, ActorKnown, at_net, seatless}
use Rattle.chip_net.proofs.ViewingLemmas.{some_is}

-- ---- a look

pub may_look : (g : Setting) (slots id word : ℕ) (me : Mine)
    → Allows (Kept g) slots id me word (λ n. n) (Looks g me)
may_look g slots id word me table kept homes at few = (
  me.0,
  keeps,
  tt,
  rw (set-get_or table.words word 0, set_again table.views id me.0 at) kept,
  (
    refl,
    record {
      log = kept.log;
      legal = kept.legal;
      has = λ p did found. (kept.each_part p id did (rw at found)).1;
    },
  ),
)

-- ---- actors in order, in their places

-- of these actors the first n are by f
module _ (f : ActorKnown → ActorKnown) (xs items : List ActorKnown) (n : ℕ)
    (is : items ≡ map f (take n xs) ++ drop n xs) where
  pub same_count : length items ≡ length xs
  same_count = rw (is, length-append, length-map, ← length-append (take n xs), take-append-drop)

  -- the next is not among them, and then it is
  pub next : n < length items → (a d : ActorKnown) → a ≡ get_or items n d
      → (slice_get xs n ≡ Some a) × (set items n (f a) ≡ map f (take (n + 1) xs) ++ drop (n + 1) xs)
  next inside a d a_is =
      let l : n < length xs = omega (arith, same_count) in
      let found : slice_get items n ≡ Some a = rw a_is (slice_get-get_or items n d inside) in
      let front : length (map f (take n xs)) ≡ n = rw length-map (length-take-le n xs (omega arith)) in
      let same : n + (n - n) ≡ n = omega arith in (
        rw (
          a_is,
          is,
          get_or-append_right (map f (take n xs)) (drop n xs) n n d front (omega arith),
          get_or-drop n xs (n - n) d,
          same,
        ) (slice_get-get_or xs n d l),
        map_over_more f xs items n a l is (sym (get_or_from_slice_get items n a a found)),
      )

  -- and in the end all are
  pub all_are : n ≡ length xs → items ≡ map f xs
  all_are past = rw (is, past, take-length xs, drop-length xs, append-nil)

pub map_at : (f : ActorKnown → ActorKnown) (xs : List ActorKnown) (n : ℕ) (b : ActorKnown)
    → slice_get (map f xs) n ≡ Some b → (a : ActorKnown) × (slice_get xs n ≡ Some a) × (b ≡ f a)
map_at f [] n b e = absurd (cc)
map_at f (x ∷ xs) zero b e = (x, refl, sym (some_is (f x) b e))
map_at f (x ∷ xs) (suc n) b e = map_at f xs n b e

-- actors whose parts were taken and given back are unchanged
pub all_back : (net : NetId) (xs : List ActorKnown) → ((n : ℕ) (a : ActorKnown) → slice_get xs n ≡ Some a → a.net ≡ net)
    → map (at_net net) (map seatless xs) ≡ xs
all_back net [] are = refl
all_back net (x ∷ xs) are = rw (all_back net xs (λ n. are (suc n)), ← are 0 x refl)
