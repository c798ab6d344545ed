-- Serves Crew.antt.
-- Lists whose elements have properties of consecutive numbers, as the actors of a crew have.
use Rattle.chip_crew.proofs.Names.{◌≡◌, ℕ, zero, suc, ◌+◌, ◌<◌, List, length, Some, take, set, refl, ap}
use Rattle.chip_crew.proofs.Names.{arith, add-one, [], ◌∷◌, ◌++◌, All, drop, sum_by-le, slice_get_within}
use Rattle.chip_crew.proofs.Names.{get_or_from_slice_get, same_Some, none-some, slice_get, ActorKnown, NetId, newcomer}
use Rattle.chip_crew.proofs.Names.{CrewId, IsAt, AreFrom, turns_of, all_turns, EachFrom, AreAscendingActors}

module _ {X : Type 0} (P : ℕ → X → Type 0) where
  at_number : (n m : ℕ) (x : X) → n ≡ m → P n x → P m x
  at_number n m x same here = rw same at here

  pub from_append : (n : ℕ) (xs ys : List X) → EachFrom P n xs → EachFrom P (n + length xs) ys → EachFrom P n (xs ++ ys)
  from_append n [] ys all rest = let same : n + 0 ≡ n = omega arith in rw same at rest
  from_append n (x ∷ xs) ys all rest =
      let same : n + suc (length xs) ≡ suc n + length xs = omega arith in
      (all.0, from_append (suc n) xs ys all.1 (rw same at rest))

  pub from_push : (n : ℕ) (xs now : List X) (x : X) → now ≡ xs ++ x ∷ [] → EachFrom P n xs → P (n + length xs) x
      → EachFrom P n now
  from_push n xs now x is all here = rw is (from_append n xs (x ∷ []) all (here, tt))

  pub from_take : (n k : ℕ) (xs : List X) → EachFrom P n xs → EachFrom P n (take k xs)
  from_take n zero xs all = tt
  from_take n (suc k) [] all = tt
  from_take n (suc k) (x ∷ xs) all = (all.0, from_take (suc n) k xs all.1)

  pub from_drop : (n k : ℕ) (xs : List X) → EachFrom P n xs → EachFrom P (n + k) (drop k xs)
  from_drop n zero xs all = let same : n ≡ n + 0 = omega arith in rw (← same) all
  from_drop n (suc k) [] all = tt
  from_drop n (suc k) (x ∷ xs) all =
      let same : suc n + k ≡ n + suc k = omega arith in rw (← same) (from_drop (suc n) k xs all.1)

  pub from_at : (n i : ℕ) (xs : List X) (x : X) → EachFrom P n xs → slice_get xs i ≡ Some x → P (n + i) x
  from_at n i [] x all at = absurd (none-some x at)
  from_at n zero (y ∷ ys) x all at = at_number n (n + 0) x (omega arith) (rw (same_Some y x at) at all.0)
  from_at n (suc i) (y ∷ ys) x all at = at_number (suc n + i) (n + suc i) x (omega arith) (from_at (suc n) i ys x all.1 at)

  pub from_set : (n i : ℕ) (xs : List X) (x : X) → EachFrom P n xs → P (n + i) x → EachFrom P n (set xs i x)
  from_set n i [] x all here = tt
  from_set n zero (y ∷ ys) x all here = (at_number (n + 0) n x (omega arith) here, all.1)
  from_set n (suc i) (y ∷ ys) x all here =
      (all.0, from_set (suc n) i ys x all.1 (at_number (n + suc i) (suc n + i) x (omega arith) here))

  pub from_tail : (n : ℕ) (xs rest : List X) (x : X) → xs ≡ x ∷ rest → EachFrom P n xs → EachFrom P (n + 1) rest
  from_tail n xs rest x is all = rw add-one (rw is at all).1

  pub from_each : (n : ℕ) (xs : List X) → ((i : ℕ) (x : X) → slice_get xs i ≡ Some x → P (n + i) x) → EachFrom P n xs
  from_each n [] each = tt
  from_each n (x ∷ xs) each = (
    at_number (n + 0) n x (omega arith) (each 0 x refl),
    from_each (suc n) xs (λ i y at. at_number (n + suc i) (suc n + i) y (omega arith) (each (suc i) y at)),
  )

  pub from_all : (Q : X → Type 0) → ((n : ℕ) (x : X) → P n x → Q x) → (n : ℕ) (xs : List X) → EachFrom P n xs → All Q xs
  from_all Q each n [] all k d less = absurd (omega (arith, less))
  from_all Q each n (x ∷ xs) all zero d less = each n x all.0
  from_all Q each n (x ∷ xs) all (suc k) d less = from_all Q each (suc n) xs all.1 k d (omega (arith, less))

-- from vertex 0 on they are in order
pub in_order : (crew : CrewId) (actors : List ActorKnown) → AreFrom crew 0 actors → AreAscendingActors crew actors
in_order crew actors all v a at =
    let here = from_at (IsAt crew) 0 v actors a all at in (here.0, omega arith)

pub ours_by : (crew : CrewId) (n : ℕ) (actors : List ActorKnown) → crew.net.setting.game.graph.vertices ≡ n
    → length actors ≡ n → ((v : ℕ) → v < n → slice_get actors v ≡ Some (newcomer crew.net crew.room v))
    → AreFrom crew 0 actors
ours_by crew n actors vertices count each = from_each (IsAt crew) 0 actors (λ i a at.
    let within = slice_get_within actors i a at in
    let is : a ≡ newcomer crew.net crew.room i = (let there = each i (omega arith) in cc) in
    rw is (record { net_is = refl; inside = omega arith; room_is = refl; turned = refl }, omega arith))

-- none of them has made a turn
pub new_turns : (net : NetId) (room : ℕ) (actors : List ActorKnown)
    → ((v : ℕ) → v < length actors → slice_get actors v ≡ Some (newcomer net room v)) → all_turns actors ≡ 0
new_turns net room actors each = let none = sum_by-le turns_of 0 actors (λ k d less.
    let is = ap turns_of (get_or_from_slice_get actors k (newcomer net room k) d (each k less)) in omega arith) in
    omega arith
