-- Serves Duties.antt, Leading.antt, Sealing.antt.
-- A worker's duties besides the turns of its actors: worker 0 leads the root, and seals.
use Rattle.chip_crew.proofs.Names.{◌≡◌, ℕ, zero, suc, ◌+◌, ◌%◌, ◌<◌, ◌==◌, List, length, Option, Some, None, refl, ap}
use Rattle.chip_crew.proofs.Names.{arith, add-one, true, false, Bool, eq-eqb, ne_eqb, [], ◌∷◌, ◌++◌, is_some}
use Rattle.chip_crew.proofs.Names.{ltb-true, if◌then◌else◌, add-mod_right, nat_tests, option_copied, option_zip}
use Rattle.chip_crew.proofs.Names.{ChipGame, Step, Seal, RootKnown, IsPolling, IsRootOver, StopperKnown, new_stopper, NetId}
use Rattle.chip_crew.proofs.Names.{Asked, root_of, CrewId, BeginsEach, EndsIf, ServesTurns, PollsIf, IsLed, CanLead}
use Rattle.chip_crew.proofs.Names.{IsLeader, LeadsTurn, LeadsRound, seals_edge, HasBack, HasSealed, TakesBack}
use Rattle.chip_crew.proofs.Names.{KnowsSeals, SealsBefore, MaySeal, seals_by, Leader, SealAt}
use Rattle.chip_crew.proofs.FeedLemmas.{poll_goes_on}
use Rattle.chip_crew.proofs.DealingLemmas.{place_is}

-- ---- what is sealed from turn to turn

-- one turn more
seals_next : (at : SealAt) (n : ℕ)
    → seals_by at n ++ (if at.turn == n then Seal at.edge ∷ [] else []) ≡ seals_by at (suc n)
seals_next at n = grind (arith, nat_tests)

-- the stopper may seal
pub may_seal : (crew : CrewId) (plan : Option SealAt) (turn : ℕ) (seal : Option (StopperKnown × SealAt))
    → HasSealed crew plan turn seal → MaySeal crew.net seal
may_seal crew None turn seal has = rw has tt
may_seal crew (Some at) turn seal has = rw has.1 (refl, has.3)

-- after one turn more it has sealed what is due
pub sealed_next : (crew : CrewId) (plan : Option SealAt) (turn : ℕ) (old new : Option (StopperKnown × SealAt))
    → HasSealed crew plan turn old → SealsBefore turn old new → HasSealed crew plan (suc turn) new
sealed_next crew None turn old new has seals = rw has at seals
sealed_next crew (Some at) turn old new has seals = let s = rw has.1 at seals in
    (s.0, s.1, rw (s.2, has.2) (seals_next at turn), has.3)

-- a stopper that opens with its net has sealed nothing
pub none_sealed : (crew : CrewId) (game : ChipGame) (plan : Option SealAt) (stopper : Option StopperKnown)
    → stopper ≡ (if is_some plan then Some (new_stopper crew.net) else None) → seals_edge game plan ≡ true
    → crew.net.setting.game ≡ game → HasSealed crew plan 0 (option_zip stopper plan)
none_sealed crew game None stopper is named same = rw is refl
none_sealed crew game (Some at) stopper is named same =
    ([], rw is refl, grind (arith, nat_tests), rw same (ltb-true at.edge (length game.graph.edges) named))

-- ---- the root with the stopper back

pub takes_back : (crew : CrewId) (plan : Option SealAt) (turns : ℕ) (seal : Option (StopperKnown × SealAt))
    (old new : RootKnown) → HasSealed crew plan turns seal → HasBack seal old new → TakesBack plan turns old new
takes_back crew None turns seal old new has back = rw has at back
takes_back crew (Some at) turns seal old new has back = (has.0, rw has.1 at back, has.2)

-- it has its net and its steps
abbrev pub IsSame : RootKnown → RootKnown → Type 0
IsSame old new = (did : Option (List Step)) × (new ≡ record { net = old.net; did = old.did; stopper_did = did })

pub back_same : (plan : Option SealAt) (turns : ℕ) (old new : RootKnown) → TakesBack plan turns old new
    → IsSame old new
back_same None turns old new back = (old.stopper_did, back)
back_same (Some at) turns old new back = (Some back.0, back.1)

-- and it knows what was sealed; without a seal in the plan it always had the stopper
pub knows_seals : (plan : Option SealAt) (turns : ℕ) (first old new last : RootKnown)
    → first.stopper_did ≡ (if is_some plan then None else Some []) → old.stopper_did ≡ first.stopper_did
    → TakesBack plan turns old new → last.stopper_did ≡ new.stopper_did → KnowsSeals plan turns last
knows_seals None turns first old new last opens same back kept = rw (kept, back, same) opens
knows_seals (Some at) turns first old new last opens same back kept = (back.0, rw (kept, back.1) refl, back.2)

-- ---- the root is led

-- the stopper that sealed is the net's, and its edge the same
pub seal_stays : (net : NetId) (turn : ℕ) (old new : Option (StopperKnown × SealAt)) → SealsBefore turn old new
    → MaySeal net old → MaySeal net new
seal_stays net turn None new seals can = rw seals tt
seal_stays net turn (Some s) new seals can = rw seals.1 can

-- a poll keeps what worker 0 needs
pub can_still : (net : NetId) (leader : Leader) (root : RootKnown) (closed : Bool)
    → IsPolling leader.root root leader.root.net.setting.game.graph.vertices → root.net ≡ leader.root.net
    → (closed ≡ true → IsRootOver root) → CanLead net leader → CanLead net (record leader { root = root; is_closed = closed })
can_still net leader root closed polls same over can = record {
  net_is = rw same can.net_is;
  may = (poll_goes_on (option_copied leader.feeds) leader.root root leader.root.net.setting.game.graph.vertices polls).may can.may;
  seal = can.seal;
  closed = over;
}

-- a round that ends polls the root, and keeps the feeds left and the seals
ends_round : (over : Bool) (old new : Leader) → EndsIf LeadsRound over old new
    → (option_copied new.feeds ≡ option_copied old.feeds) × (new.seal ≡ old.seal) × PollsIf over old.root new.root
ends_round true old new ends = (ap option_copied ends.feeds, ends.seal, ends.polls)
ends_round false old new same = rw same (refl, refl, refl)

-- the root is led, and what is due is sealed
pub led_by : (asked : Asked) (round k : ℕ) (old new : Leader) → IsLeader asked old
    → ServesTurns LeadsTurn LeadsRound round k old new
    → IsLed round k asked.feeds (root_of asked.crew asked.plan) (option_copied new.feeds) new.root
    × HasSealed asked.crew asked.plan.seal k new.seal
led_by asked round zero old new begins same = rw same ((begins.feeds, begins.root), begins.seal)
led_by asked round (suc k) old new begins (was, begun, served, turn, ends) =
    let led = led_by asked round k old was begins served in
    let over = ends_round (suc k % round == 0) begun new ends in (
      (option_copied was.feeds, was.root, begun.root, led.0, rw over.0 turn.feeds, over.2),
      rw over.1 (sealed_next asked.crew asked.plan.seal k was.seal begun.seal led.1 turn.seals),
    )

-- ---- round by round

-- with a whole round more there are whole rounds
pub round_over : (round m k : ℕ) → k ≡ round → m % round ≡ 0 → (m + k) % round ≡ 0
round_over round m k whole begins = rw (whole, add-mod_right) begins

module _ {D : Type 0} (before : ℕ → D → D → Type 0) (after : D → D → Type 0) (round : ℕ) where
  -- one turn more, with the duty after a round where it ends one
  pub serves_turn : (k : ℕ) (over : Bool) (old was now end : D) → ServesTurns before after round k old was
      → before k was now
      → ((k + 1) % round == 0) ≡ over → EndsIf after over now end → ServesTurns before after round (k + 1) old end
  serves_turn k over old was now end served begun is ends =
      rw add-one (was, now, served, begun, rw (rw add-one at is) ends)

  -- turns of a round that is not over
  pub serves_more : (m k : ℕ) (old was now : D) → m % round ≡ 0 → k < round → ServesTurns before after round m old was
      → BeginsEach before m k was now → ServesTurns before after round (m + k) old now
  serves_more m zero old was now begins less served same = let here : m + 0 ≡ m = omega arith in rw (same, here) served
  serves_more m (suc k) old was now begins less served each =
      let next : m + suc k ≡ m + k + 1 = omega arith in let place = place_is m (suc k) round begins less in
      rw next (serves_turn (m + k) false old each.0 now now
      (serves_more m k old was each.0 begins (omega arith) served each.1) each.2
      (rw (← next) (ne_eqb ((m + suc k) % round) 0 (omega arith))) refl)

  -- a whole round
  pub serves_round : (m k : ℕ) (old was now end : D) → k ≡ round → m % round ≡ 0 → 0 < round
      → ServesTurns before after round m old was → BeginsEach before m k was now → after now end
      → ServesTurns before after round (m + k) old end
  serves_round m zero old was now end whole begins some served each done = absurd (omega arith)
  serves_round m (suc j) old was now end whole begins some served each done =
      let next : m + suc j ≡ m + j + 1 = omega arith in
      rw next (serves_turn (m + j) true old each.0 now end
      (serves_more m j old was each.0 begins (omega arith) served each.1) each.2
      (rw (← next) (eq-eqb ((m + suc j) % round) 0 (round_over round m (suc j) whole begins))) done)
