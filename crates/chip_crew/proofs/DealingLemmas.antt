-- Serves Dealing.antt, Rounds.antt.
-- The start and the end of a worker's run, and the effect of its turns.
use Rattle.chip_crew.proofs.Names.{◌^◌, ◌≡◌, ℕ, zero, suc, ◌+◌, ◌*◌, ◌%◌, ◌<◌, ◌≤◌, ◌-◌, ◌==◌, max, List, length}
use Rattle.chip_crew.proofs.Names.{Option, Some, None, take, get_or, set, length-take, refl, ap, arith}
use Rattle.chip_crew.proofs.Names.{add-one, zero-add, mod-add-mod, mod-eq_of_lt, length-set, sum_by-set, mul-le}
use Rattle.chip_crew.proofs.Names.{slice_get_read, slice_get_past, slice_get_within, get_or_from_slice_get, slice_get}
use Rattle.chip_crew.proofs.Names.{Multigraph, edge_at, length-picked, ActorKnown, MakesTurn, Turn, Asked, passes}
use Rattle.chip_crew.proofs.Names.{CrewId, IsOurs, IsAt, AreFrom, turns_of, all_turns, ends_at, ends_before}
use Rattle.chip_crew.proofs.Names.{IsShareStart, IsFirstOf, AreActorsOf, HasDealt, TurnsThere, TurnsAt, RoundsMade}
use Rattle.chip_crew.proofs.TurnLemmas.{turn_counts}
use Rattle.chip_crew.proofs.RunLemmas.{from_at, from_set, from_take, from_all}

-- the number of edge ends at a vertex is bounded
pub few_ends : (G : Multigraph) (v : ℕ) → length G.edges ≤ 2 ^ 23 → ends_at G v ≤ (2 ^ 24 + 1)
few_ends G v few = let outs = length-picked (λ e. (edge_at G e).tail == v) (length G.edges) in
    let ins = length-picked (λ e. (edge_at G e).head == v) (length G.edges) in omega arith

module _ (G : Multigraph) where
  -- each vertex has an end of an edge
  ends_grow : (v w : ℕ) → v < w → ends_before G v < ends_before G w
  ends_grow v zero less = absurd (omega arith)
  ends_grow v (suc w) less = let below = ends_grow v w in grind arith

  module _ (workers : ℕ) where
    -- the first worker begins at vertex 0
    pub cut_first : (v : ℕ) → IsShareStart G workers 0 v → v ≡ 0
    cut_first zero cut = refl
    cut_first (suc v) cut = let below = cut.least 0 (omega arith) in absurd (omega arith)

    -- a worker begins at one vertex
    not_less : (worker v w : ℕ) → IsShareStart G workers worker v → IsShareStart G workers worker w → v < w → ⊥
    not_less worker v w cut other less = let below = other.least v less in omega arith

    pub cut_same : (worker v w : ℕ) → IsShareStart G workers worker v → IsShareStart G workers worker w → v ≡ w
    cut_same worker v w cut other =
        let one = not_less worker v w cut other in let two = not_less worker w v other cut in omega arith

    -- after the last worker there is no vertex
    pub cut_last : (v : ℕ) → 0 < workers → IsShareStart G workers workers v → v ≡ G.vertices
    cut_last v some cut =
        let past : G.vertices < v → ⊥ = λ less. (let below = cut.least G.vertices less in omega arith) in
        let short : v < G.vertices → ⊥ = λ less. (let more = mul-le workers (suc (ends_before G v)) workers
        (ends_before G G.vertices) (omega arith) (ends_grow v G.vertices less) in omega arith) in omega arith

    -- one gets from the first vertex of a worker to that of the next
    pub cut_next : (worker v w share ends : ℕ) → IsShareStart G workers worker v
        → share ≡ (worker + 1) * ends_before G G.vertices → ends ≡ ends_before G w → share ≤ workers * ends
        → ((u : ℕ) → v ≤ u → u < w → workers * ends_before G u < share) → IsShareStart G workers (worker + 1) w
    cut_next worker v w share ends cut is at reached least = record {
      reached = rw (is, at) at reached;
      least = λ u less. (let before = cut.least u in let after = least u in grind arith);
    }

-- ---- turns

-- an actor that made a turn is still the crew's actor of its vertex
pub still_ours : (crew : CrewId) (old new : ActorKnown) (answer : Turn) → MakesTurn old new answer → IsOurs crew old
    → IsOurs crew new
still_ours crew old new answer makes ours =
    let same = makes.record_is in
    record {
      net_is = rw same ours.net_is;
      inside = rw same ours.inside;
      room_is = rw same ours.room_is;
      turned = rw (turn_counts old new answer makes) (old, answer, ours.turned, makes);
    }

-- a turn keeps the number of actors, and is at most one turn
turn_leaves : (place : ℕ) (next : Option ActorKnown) (old new : List ActorKnown) → slice_get old place ≡ next
    → TurnsThere place next old new → (length new ≡ length old) × (all_turns new ≤ all_turns old + 1)
turn_leaves place None old new at same = rw same (refl, omega arith)
turn_leaves place (Some next) old new at turns = (
  rw turns.3 (length-set old place turns.0),
  (let all = ap all_turns turns.3 in let one = turn_counts next turns.0 turns.1 turns.2 in
      let was = ap turns_of (get_or_from_slice_get old place next next at) in
      let both = sum_by-set turns_of old place turns.0 next (slice_get_within old place next at) in omega arith),
)

turned : (crew : CrewId) (from place : ℕ) (old new : List ActorKnown) (next : Option ActorKnown)
    → slice_get old place ≡ next → TurnsThere place next old new → AreFrom crew from old → AreFrom crew from new
turned crew from place old new None at same all = rw same all
turned crew from place old new (Some next) at turns all =
    let here = from_at (IsAt crew) from place old next all at in
    rw turns.3 (from_set (IsAt crew) from place old turns.0 all (
      still_ours crew next turns.0 turns.1 turns.2 here.0,
      rw turns.2.record_is here.1,
    ))

pub rounds_turns : (passes : ℕ → Type 0) (k : ℕ) (first now : List ActorKnown) → RoundsMade passes k first now
    → all_turns now ≤ all_turns first + k
rounds_turns passes zero first now same = rw same (omega arith)
rounds_turns passes (suc k) first now made = let old = rounds_turns passes k first made.0 made.1 in
    let one = turn_leaves (k % max 1 (length made.0)) _ made.0 now refl made.3 in omega arith

-- ---- turns in a row

-- the actor at that place made its turn
pub turn_at : (k : ℕ) (actors : List ActorKnown) (a new : ActorKnown) (answer : Turn) → k < length actors
    → a ≡ get_or actors k a → MakesTurn a new answer → TurnsAt k actors (set actors k new)
turn_at k actors a new answer less read turn =
    rw (slice_get_read actors (length actors) k a refl less read) (new, answer, turn, refl)

-- without an actor there nothing is done
pub none_at : (k : ℕ) (actors : List ActorKnown) → length actors ≤ k → TurnsAt k actors actors
none_at k actors few = rw (slice_get_past actors k few) refl

-- where a round begins, its turns are at their places
pub place_is : (m k round : ℕ) → m % round ≡ 0 → k < round → (m + k) % round ≡ k
place_is m k round begins less = rw (← mod-add-mod m round k) (rw (begins, zero-add) (mod-eq_of_lt less))

-- what was dealt to a worker is of its net
pub dealt_net : (asked : Asked) (worker m k : ℕ) (actors : List ActorKnown) (a : ActorKnown)
    → HasDealt asked worker m actors → k < length actors → a ≡ get_or actors k a → a.net ≡ asked.crew.net
dealt_net asked worker m k actors a made less read = rw read (from_all (IsAt asked.crew)
    (λ (b : ActorKnown). b.net ≡ asked.crew.net) (λ n b here. here.0.net_is) made.1.from actors made.1.each k a less)

-- one turn more of a round that began with the turn m
pub dealt_turn : (asked : Asked) (worker m k : ℕ) (before now : List ActorKnown) → HasDealt asked worker (m + k) before
    → m % max 1 (length before) ≡ 0 → k < max 1 (length before) → passes asked worker (m + k) → TurnsAt k before now
    → HasDealt asked worker (m + (k + 1)) now
dealt_turn asked worker m k before now made begins less pass turn =
    let next : suc (m + k) ≡ m + (k + 1) = omega arith in
    let place : (m + k) % max 1 (length before) ≡ k = place_is m k (max 1 (length before)) begins less in (
      made.0,
      record {
        from = made.1.from;
        is_first = made.1.is_first;
        is_next = rw (turn_leaves k _ before now refl turn).0 made.1.is_next;
        each = turned asked.crew made.1.from k before now _ refl turn made.1.each;
      },
      (made.2.0, made.2.1, rw (← next) (before, made.2.2, pass, rw place turn)),
    )

-- ---- dealing

-- the first ones of those left are the worker's
pub are_of : (crew : CrewId) (worker first next : ℕ) (actors own : List ActorKnown) → IsFirstOf crew worker first
    → IsFirstOf crew (worker + 1) next → first ≤ next → next ≤ first + length actors → AreFrom crew first actors
    → own ≡ take (next - first) actors → AreActorsOf crew worker own
are_of crew worker first next actors own is_first is_next behind some are is =
    let count = ap length is in let taken = length-take (next - first) actors in
    let end : next ≡ first + length own = omega arith in
    record {
      from = first;
      is_first = is_first;
      is_next = rw (add-one, end) at is_next;
      each = rw is (from_take (IsAt crew) first (next - first) actors are);
    }
