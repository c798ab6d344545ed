-- Serves Gathering.antt.
-- The calling thread gathers the actors of all vertices from the queue, and sorted they are in order.
use Rattle.chip_crew.proofs.Names.{◌≡◌, ℕ, suc, ◌+◌, ◌*◌, ◌<◌, ◌≤◌, List, length, refl, ap, arith, []}
use Rattle.chip_crew.proofs.Names.{◌∷◌, ◌++◌, All, map, nat_tests, length-map, map-append, All-tail, All-head}
use Rattle.chip_crew.proofs.Names.{All-append, All-permutation, sum_by-IsPermutation, sum_by-append, sum_by-cons}
use Rattle.chip_crew.proofs.Names.{sum_by-le, get_or-le-sum_by, Vec, IsPermutation, IsNonDecreasingBy, vec_capacity}
use Rattle.chip_crew.proofs.Names.{cond_yes, ActorKnown, Asked, CrewId, IsOurs, AreFrom, turns_of, all_turns, AreActors}
use Rattle.chip_crew.proofs.Names.{AreGathered, IsGatheringFor, got_turns, gave_turns, times, actors_of, AreAllThere}
use Rattle.chip_crew.proofs.Names.{Ledger}
use Rattle.chip_crew.proofs.PlacesLemmas.{is_it, is_of}
use Rattle.chip_crew.proofs.RunLemmas.{in_order}

abbrev pub vertices_of : List ActorKnown → List ℕ
vertices_of row = map (λ a. a.vertex) row

-- these actors were appended to the row
pub gathers_more : (asked : Asked) (old new : Ledger) (row now : Vec ActorKnown) (more : List ActorKnown) (m n : ℕ)
    → IsGatheringFor asked m old row → now.items ≡ row.items ++ more → All (IsOurs asked.crew) more
    → asked.crew.net.setting.game.graph.vertices ≤ vec_capacity now → new.workers ≡ n
    → new.has ≡ old.has ++ vertices_of more
    → all_turns more + gave_turns new + got_turns old + m * asked.plan.turns
    ≤ gave_turns old + got_turns new + n * asked.plan.turns → IsGatheringFor asked n new now
gathers_more asked old new row now more m n gathers is ours room speaks has turns = record {
  speaks = speaks;
  has = rw (has, gathers.has, is, map-append) refl;
  ours = rw is (All-append (IsOurs asked.crew) row.items more gathers.ours ours);
  room = room;
  turns = (let all = ap all_turns is in omega (arith, sum_by-append turns_of));
}

-- ---- all of them

times_same : (v : ℕ) (row : List ActorKnown) → times v (vertices_of row) ≡ actors_of v row
times_same v [] = refl
times_same v (a ∷ rest) = let same = times_same v rest in omega (arith, sum_by-cons (is_it v), sum_by-cons (is_of v))

-- where the queue is empty
pub gathered : (asked : Asked) (l : Ledger) (row : Vec ActorKnown) → IsGatheringFor asked asked.crew.workers l row
    → AreAllThere asked.crew l []
    → AreGathered asked.crew row.items × (all_turns row.items ≤ asked.crew.workers * asked.plan.turns)
gathered asked l row gathers there =
    let all = there gathers.speaks in let has = ap length gathers.has in
    let same = length-map row.items (λ (a : ActorKnown). a.vertex) in (
      record {
        ours = gathers.ours;
        count = omega arith;
        once = λ v less. (let one = all.2 v less in let had = ap (times v) gathers.has in
            let read = times_same v row.items in omega arith);
      },
      omega arith,
    )

-- ---- in order

-- where all are of greater vertices this one is missing
none_below : (v : ℕ) (xs : List ActorKnown) → All (λ a. v < a.vertex) xs → actors_of v xs ≡ 0
none_below v xs all = let none = sum_by-le (is_of v) 0 xs (λ k d less. let above = all k d less in
    grind (arith, nat_tests)) in omega arith

-- sorted, with each vertex once, they are of consecutive vertices
are_from : (crew : CrewId) (from : ℕ) (xs : List ActorKnown) → All (IsOurs crew) xs
    → IsNonDecreasingBy (λ (a : ActorKnown). a.vertex) xs → All (λ a. from ≤ a.vertex) xs
    → ((v : ℕ) → from ≤ v → v < from + length xs → actors_of v xs ≡ 1) → AreFrom crew from xs
are_from crew from [] ours up least once = tt
are_from crew from (a ∷ rest) ours up least once =
    let one = once from (omega arith) (omega arith) in
    let both = sum_by-cons (is_of from) a rest in
    let first = least 0 a (omega arith) in
    let above : from < a.vertex → ⊥ = λ less. (let none = none_below from (a ∷ rest) (λ k d within.
    let rises = up 0 k d (omega arith) within in omega arith) in omega arith) in
    let here : a.vertex ≡ from = omega arith in
    let mine = cond_yes {A = ℕ} a.vertex from 1 0 here in (
      (All-head (IsOurs crew) a rest ours, here),
      are_from crew (suc from) rest (All-tail (IsOurs crew) a rest ours)
          (λ i j d le less. up (suc i) (suc j) d (omega arith) (omega arith))
          (λ k d less. let some = get_or-le-sum_by (is_of from) rest k d less in
          let le = least (suc k) d (omega arith) in grind (arith, nat_tests))
          (λ v le less. let was = once v (omega arith) (omega arith) in let all = sum_by-cons (is_of v) a rest in
          grind (arith, nat_tests)),
    )

pub sorted_actors : (crew : CrewId) (xs ys : List ActorKnown) → AreGathered crew xs → IsPermutation xs ys
    → length ys ≡ length xs → IsNonDecreasingBy (λ (a : ActorKnown). a.vertex) ys → AreActors crew ys
sorted_actors crew xs ys all moves same up = record {
  count = rw same all.count;
  order = in_order crew ys (are_from crew 0 ys (All-permutation (IsOurs crew) xs ys moves all.ours) up
      (λ k d less. omega arith)
      (λ v least less. rw (sum_by-IsPermutation (is_of v) xs ys moves) (all.once v (omega arith))));
}
