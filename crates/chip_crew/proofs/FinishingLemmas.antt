-- Serves Finished.antt, Feeding.antt, Plans.antt.
-- What holds of a crew holds of the game that it played.
use Rattle.chip_crew.proofs.Names.{◌≡◌, ℕ, ◌<◌, ◌≤◌, List, Option, Some, None, refl, subst, arith, true}
use Rattle.chip_crew.proofs.Names.{false, [], ⊎_elim, ◌⊎◌, is_some, and_parts, nat_tests, AllPass-from_list_all}
use Rattle.chip_crew.proofs.Names.{option_copied, ChipGame, HasMore, Outcome, setting_with, Step, RootKnown}
use Rattle.chip_crew.proofs.Names.{has_ended, fed_by, new_root, IsRootOver, NetId, Asked, root_of, CrewId, EndsWell}
use Rattle.chip_crew.proofs.Names.{StaysOpen, EndsLed, StaysUnfinished, Left, pairs, MayFeedLeft, IsLed, CanPlay}
use Rattle.chip_crew.proofs.Names.{IsCrewFor, HasFinished, IsWhole, IsFinished, IsCrewStopped, IsFaultOf, HasLed, is_plan}
use Rattle.chip_crew.proofs.Names.{seals_edge, are_feeds, max_workers, max_turns, HasBack, HasSealed, TakesBack}
use Rattle.chip_crew.proofs.Names.{KnowsSeals, CrewFault, Leader, Plan, SealAt, Sharing, Finished}
use Rattle.chip_crew.proofs.FeedLemmas.{Adds, GoesOn, poll_adds, led_goes_on, over_has_fed, over_polled}
use Rattle.chip_crew.proofs.LeadingLemmas.{led_by, IsSame, takes_back, back_same, knows_seals}
use Rattle.chip_crew.specs.declared.fault.CrewFault.TheVariants as fault

-- the root of a net opened for feeding may make the plan's feeds
pub may_begin : (game : ChipGame) (feeds : Left) (plan : Plan) (net : NetId) (root : RootKnown)
    (stopper_did : Option (List Step)) → CanPlay game feeds plan
    → net.setting ≡ setting_with game plan.ring (is_some feeds) → root ≡ new_root net stopper_did
    → MayFeedLeft root feeds
may_begin game None plan net root stopper_did can setting is = tt
may_begin game (Some feeds) plan net root stopper_did can setting is =
    let are = (and_parts (is_plan game plan) (are_feeds game feeds) can.within).1 in rw is (record {
      not_ended = rw setting refl;
      each = rw setting (λ k d less. let fits = AllPass-from_list_all _ feeds are k d less in grind (arith, nat_tests));
      within = rw setting (omega arith);
    })

-- the plan is within its ranges
pub plan_fits : (game : ChipGame) (feeds : Left) (plan : Plan) → CanPlay game feeds plan
    → (0 < plan.workers) × (plan.workers ≤ max_workers) × (plan.turns ≤ max_turns) × (seals_edge game plan.seal ≡ true)
plan_fits game feeds plan can = let within = can.within in grind (arith, nat_tests)

-- ---- a crew that finished

module _ (asked : Asked) (round turns : ℕ) (leader : Leader) (back : RootKnown) (has : HasLed asked round turns leader)
    (lasts : (turns ≡ asked.plan.turns) ⊎ IsRootOver leader.root) (has_back : HasBack leader.seal leader.root back) where
  its_led : IsLed round turns asked.feeds (root_of asked.crew asked.plan) (option_copied leader.feeds) leader.root
      × HasSealed asked.crew asked.plan.seal turns leader.seal
  its_led = led_by asked round turns has.first leader has.begins has.served

  its_back : TakesBack asked.plan.seal turns leader.root back
  its_back = takes_back asked.crew asked.plan.seal turns leader.seal leader.root back its_led.1 has_back

  same : IsSame leader.root back
  same = back_same asked.plan.seal turns leader.root back its_back

  -- the root closed in the end: all is fed
  pub ends_led : (receipt : RootKnown) (o : Outcome) → EndsWell back receipt o
      → EndsLed asked.crew asked.feeds asked.plan receipt o
  ends_led receipt o ends =
      let noted = rw ((poll_adds back ends.root back.net.setting.game.graph.vertices ends.polled).ended_is, same.1)
      at ends.closed.1 in
      record {
        round = round;
        is_round = has.is_round;
        turns = turns;
        at_most = has.at_most;
        led = leader.root;
        is_led = rw (over_has_fed (option_copied leader.feeds) leader.root has.can.may noted) at its_led.0;
        lasts = lasts;
        back = back;
        is_back = its_back;
        ends = ends;
      }

  -- it did not: all turns are used up
  pub stays_led : (now : RootKnown) (deficit : ℕ) → StaysOpen back now deficit
      → StaysUnfinished asked.crew asked.feeds asked.plan now deficit
  stays_led now deficit stays =
      let all : turns ≡ asked.plan.turns = ⊎_elim (λ (same : turns ≡ asked.plan.turns). same)
      (λ (over : IsRootOver leader.root). absurd (stays.not_over (over_polled back now back.net.setting.game.graph.vertices
      stays.polled (rw same.1 over)))) lasts in
      record {
        round = round;
        is_round = has.is_round;
        left = option_copied leader.feeds;
        led = leader.root;
        is_led = rw all at its_led.0;
        back = back;
        is_back = rw all at its_back;
        stays = stays;
      }

-- the game of the outcome has all chips at the start
whole_by : (game whole : ChipGame) (feeds : Left) (net : NetId) (fed : List (ℕ × ℕ)) (ring : ℕ)
    → net.setting ≡ setting_with game ring (is_some feeds) → fed ≡ pairs feeds
    → (net.setting.fed ≡ false → whole ≡ net.setting.game) → HasMore net.setting.game fed whole
    → IsWhole game feeds whole
whole_by game whole None net fed ring setting is unfed more = (rw setting at unfed) refl
whole_by game whole (Some feeds) net fed ring setting is unfed more = rw (setting, is) at more

module _ (feeds : Left) (plan : Plan) (crew : CrewId) (f : Finished) (finished : HasFinished crew feeds plan f) where
  abbrev ends : EndsLed crew feeds plan f.receipt f.outcome
  ends = finished.ends

  led : GoesOn feeds None (root_of crew plan) ends.led
  led = led_goes_on ends.round ends.turns feeds None (root_of crew plan) ends.led ends.is_led

  polled : Adds ends.back ends.ends.root [] (has_ended ends.back)
  polled = poll_adds ends.back ends.ends.root ends.back.net.setting.game.graph.vertices ends.ends.polled

  stays : IsSame ends.led ends.back
  stays = back_same plan.seal ends.turns ends.led ends.back ends.is_back

  -- the root that finished is that of the crew's net
  pub net_is : ends.ends.root.net ≡ crew.net
  net_is = rw (polled.net, stays.1) led.net

  knows : (last : RootKnown) → last.stopper_did ≡ ends.back.stopper_did → KnowsSeals plan.seal ends.turns last
  knows last kept = knows_seals plan.seal ends.turns (root_of crew plan) ends.led ends.back last refl led.stopper
      ends.is_back kept

  -- all feeds were made, once and in order, and the plan's seal and no other
  pub finished_by : (shared : Sharing) (game : ChipGame) → IsCrewFor shared game feeds plan crew
      → IsFinished shared game feeds plan f
  finished_by shared game opened =
      let finishes = ends.ends.finishes in
      let fed : fed_by ends.ends.root ≡ pairs feeds = rw (polled.fed, stays.1) led.fed in
      record {
        crew = crew;
        opened = opened;
        finished = finished;
        sealed = knows f.receipt (let kept = polled.stopper in cc);
        fed = fed;
        whole = finishes.game;
        whole_is = whole_by game finishes.game feeds ends.ends.root.net (fed_by ends.ends.root) plan.ring
            (rw net_is opened.setting) fed finishes.unfed finishes.more;
        played = λ none. finishes.played (finishes.unsealed (subst (λ (seal : Option SealAt).
            KnowsSeals seal ends.turns ends.ends.root) none (knows ends.ends.root polled.stopper)));
      }

-- why a crew opened for the game didn't finish
pub stopped_by : (shared : Sharing) (game : ChipGame) (asked : Asked) (e : CrewFault)
    → IsCrewFor shared game asked.feeds asked.plan asked.crew → IsCrewStopped asked e
    → IsFaultOf shared game asked.feeds asked.plan asked.may_answer e
stopped_by shared game asked fault.NoMemory opened why = opened.can
stopped_by shared game asked fault.Spawn opened why = opened.can
stopped_by shared game asked fault.GateShut opened why = (opened.can, rw opened.workers at why)
stopped_by shared game asked (fault.Unfinished deficit root) opened why = (asked.crew, opened, why)
stopped_by shared game asked _ opened why = absurd why
