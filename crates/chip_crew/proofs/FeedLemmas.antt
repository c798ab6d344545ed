-- Serves Feeding.antt, Ending.antt.
-- The root after feeds, polls and the end: what was fed, what may still be fed, and whether it is over.
use Rattle.chip_crew.proofs.Names.{◌≡◌, ℕ, zero, suc, ◌+◌, ◌%◌, ◌<◌, ◌≤◌, ◌-◌, ◌==◌, List, Some, None, refl, ap}
use Rattle.chip_crew.proofs.Names.{arith, true, false, Bool, [], ◌∷◌, ◌++◌, All, append_assoc, inl}
use Rattle.chip_crew.proofs.Names.{inr, nat_tests, All-tail, All-head, All-push, All-nil, sum_by-append, tested_le}
use Rattle.chip_crew.proofs.Names.{root_edge, graph_edges, all_edges, tail_of, root, Part, deficit_of}
use Rattle.chip_crew.proofs.Names.{outstanding_on, Clear, Setting, does, saw, Step, Event, Settle, End, opening_part}
use Rattle.chip_crew.proofs.Names.{part_by, fed_of, fed_in, part_append, RootKnown, root_part, root_after, has_ended}
use Rattle.chip_crew.proofs.Names.{fed_by, FeedsChips, ReadsFullCell, feed_steps, settles_from, IsPolling, Ends}
use Rattle.chip_crew.proofs.Names.{IsRootOver}
use Rattle.chip_crew.proofs.Names.{root_deficit, RootState, Left, pairs, MayFeed, MayFeedLeft, FeedsNext}
use Rattle.chip_crew.proofs.Names.{EndsAfter, FeedsOnce, PollsIf, IsLed, events_of}

-- ---- settles

abbrev pub IsSettle : Event → Type 0
IsSettle (Settle e) = Unit {0}
IsSettle _ = ⊥

module _ (g : Setting) where
  pub are_settles : (from n : ℕ) → All IsSettle (settles_from g from n)
  are_settles from zero = All-nil IsSettle
  are_settles from (suc n) =
      All-push IsSettle (settles_from g from n) (Settle (root_edge g (from + n))) (are_settles from n) tt

  -- they feed nothing, and leave whether the end is noted
  settle_leaves : (x : Event) (seen : ℕ) (s : Part) → IsSettle x
      → (fed_of g x ≡ []) × ((does g (saw x seen) s).ended ≡ s.ended)
  settle_leaves (Settle e) seen s is = (refl, refl)
  settle_leaves _ seen s is = absurd is

  settles_leave : (s : Part) (xs : List Step) → All IsSettle (events_of xs)
      → (fed_in g xs ≡ []) × ((part_by g s xs).ended ≡ s.ended)
  settles_leave s [] are = (refl, refl)
  settles_leave s (x ∷ xs) are =
      let here = settle_leaves x.event x.seen s (All-head IsSettle x.event (events_of xs) are) in
      let rest = settles_leave (does g x s) xs (All-tail IsSettle x.event (events_of xs) are) in
      (rw (here.0, rest.0) refl, rw (rest.1, here.1) refl)

  -- so does the end, with the settles after it
  end_feeds : (s : Part) (xs : List Step) (rest : List Event) → events_of xs ≡ End ∷ rest → All IsSettle rest
      → fed_in g xs ≡ []
  end_feeds s [] rest is are = absurd (cc)
  end_feeds s (x ∷ xs) rest is are =
      let first : x.event ≡ End = cc in let others : rest ≡ events_of xs = cc in
      rw (first, (settles_leave s xs (rw others at are)).0) refl

  fed_steps : (xs ys : List Step) → fed_in g (xs ++ ys) ≡ fed_in g xs ++ fed_in g ys
  fed_steps [] ys = refl
  fed_steps (x ∷ xs) ys = rw (fed_steps xs ys, append_assoc) refl

-- ---- the root after more events

-- it has the same net and these feeds more, and the end is noted or not
pub record Adds (old new : RootKnown) (more : List (ℕ × ℕ)) (ended : Bool) : Type 0 where
  pub net : new.net ≡ old.net
  pub stopper : new.stopper_did ≡ old.stopper_did
  pub fed : fed_by new ≡ fed_by old ++ more
  pub ended_is : has_ended new ≡ ended

adds_steps : (old new : RootKnown) (steps : List Step) (more : List (ℕ × ℕ)) (ended : Bool) → new ≡ root_after old steps
    → (part_by old.net.setting (root_part old) steps).ended ≡ ended → fed_in old.net.setting steps ≡ more
    → Adds old new more ended
adds_steps old new steps more ended is noted feeds =
    let g = old.net.setting in rw is (record {
      net = refl;
      stopper = refl;
      fed = rw (fed_steps g old.did steps, feeds) refl;
      ended_is = rw (has_ended, part_append g (opening_part g) old.did steps) noted;
    })

-- a poll feeds nothing
pub poll_adds : (old new : RootKnown) (n : ℕ) → IsPolling old new n → Adds old new [] (has_ended old)
poll_adds old new n polling =
    let leaves = settles_leave old.net.setting (root_part old) polling.steps
    (rw polling.events_are (are_settles old.net.setting 0 n)) in
    adds_steps old new polling.steps [] (has_ended old) polling.record_is leaves.1 leaves.0

-- nor does an idle look
look_adds : (old new : RootKnown) (v : ℕ) → ReadsFullCell old new v → Adds old new [] (has_ended old)
look_adds old new v looks = adds_steps old new (saw (Clear (root_edge old.net.setting v)) looks.seen ∷ []) []
    (has_ended old) looks.record_is refl refl

-- nor the end
end_adds : (old new : RootKnown) (answer : RootState) → Ends old new answer → Adds old new [] true
end_adds old new answer ends =
    let g = old.net.setting in let steps = ends.ending.steps in
    adds_steps old new steps [] true ends.ending.record_is
    (rw (← part_append g (opening_part g) old.did steps) (rw ends.ending.record_is at ends.ended))
    (end_feeds g (root_part old) steps _ ends.ending.events_are (are_settles g 1 (g.game.graph.vertices - 1)))

-- a feed feeds its chips
feed_adds : (old new : RootKnown) (v k place : ℕ) → FeedsChips old new v k place
    → Adds old new ((v, k) ∷ []) (has_ended old)
feed_adds old new v k place feeds =
    let g = old.net.setting in let back : root_edge g v - graph_edges g ≡ v = omega arith in
    adds_steps old new (feed_steps g v k place) ((v, k) ∷ []) (has_ended old) feeds.record_is refl
    (rw back refl)

-- ---- what may still be fed

all_right : {X : Type 0} (P : X → Type 0) (xs ys : List X) → All P (xs ++ ys) → All P ys
all_right P [] ys all = all
all_right P (x ∷ xs) ys all = all_right P xs ys (All-tail P x (xs ++ ys) all)

may_after : {old new : RootKnown} {more : List (ℕ × ℕ)} (left : List (ℕ × ℕ)) → Adds old new more (has_ended old)
    → MayFeed old (more ++ left) → MayFeed new left
may_after {old} {new} {more} left adds may =
    let fed = sum_by-append (λ (p : ℕ × ℕ). p.1) (fed_by old) more in
    let both = sum_by-append (λ (p : ℕ × ℕ). p.1) more left in
    record {
      not_ended = rw adds.ended_is may.not_ended;
      each = rw adds.net (all_right (λ (p : ℕ × ℕ). (p.0 < old.net.setting.game.graph.vertices) × (0 < p.1)) more left
          may.each);
      within = rw (adds.fed, adds.net) (omega arith);
    }

-- the root continued feeding: some of the feeds left were made, in order, and the others are left and may be made
pub record GoesOn (feeds left : Left) (old new : RootKnown) : Type 0 where
  pub net : new.net ≡ old.net
  pub stopper : new.stopper_did ≡ old.stopper_did
  pub fed : fed_by new ++ pairs left ≡ fed_by old ++ pairs feeds
  pub may : MayFeedLeft old feeds → MayFeedLeft new left

stays : (feeds left : Left) (old new : RootKnown) → left ≡ feeds → new ≡ old → GoesOn feeds left old new
stays feeds left old new same is = rw (same, is) (record { net = refl; stopper = refl; fed = refl; may = λ may. may })

goes_on : {a b c : Left} {x y z : RootKnown} → GoesOn a b x y → GoesOn b c y z → GoesOn a c x z
goes_on first last = record {
  net = cc;
  stopper = cc;
  fed = cc;
  may = λ may. last.may (first.may may);
}

-- these feeds of those left were made
adds_left : {old new : RootKnown} {more : List (ℕ × ℕ)} {ended : Bool} (feeds left : Left) → Adds old new more ended
    → pairs feeds ≡ more ++ pairs left → (MayFeedLeft old feeds → MayFeedLeft new left) → GoesOn feeds left old new
adds_left {old} {new} {more} feeds left adds is may = record {
  net = adds.net;
  stopper = adds.stopper;
  fed = rw (adds.fed, is, append_assoc) refl;
  may = may;
}

-- a poll keeps the feeds left
pub poll_goes_on : (left : Left) (old new : RootKnown) (n : ℕ) → IsPolling old new n → GoesOn left left old new
poll_goes_on None old new n polling = adds_left None None (poll_adds old new n polling) refl (λ may. may)
poll_goes_on (Some left) old new n polling = let adds = poll_adds old new n polling in
    adds_left (Some left) (Some left) adds refl (may_after left adds)

-- the next feed was made, or is still left
next_goes_on : (feeds left : List (ℕ × ℕ)) (old new : RootKnown) → FeedsNext feeds left old new
    → GoesOn (Some feeds) (Some left) old new
next_goes_on [] left old new next = stays (Some []) (Some left) old new (ap Some next.0) next.1
next_goes_on (pair ∷ rest) left old new (inl (same, (place, feeds))) =
    let adds = feed_adds old new pair.0 pair.1 place feeds in
    rw same (adds_left (Some (pair ∷ rest)) (Some rest) adds refl (may_after rest adds))
next_goes_on (pair ∷ rest) left old new (inr (same, looks)) =
    let adds = look_adds old new pair.0 looks in
    rw same (adds_left (Some (pair ∷ rest)) (Some (pair ∷ rest)) adds refl (may_after (pair ∷ rest) adds))

-- the end is noted where nothing is left
end_goes_on : (rest : List (ℕ × ℕ)) (left : Left) (old new : RootKnown) → EndsAfter rest left old new
    → GoesOn (Some rest) left old new
end_goes_on [] left old new ends = rw ends.0
    (adds_left (Some []) None (end_adds old new ends.1.0 ends.1.1) refl (λ may. tt))
end_goes_on (pair ∷ rest) left old new ends = stays (Some (pair ∷ rest)) left old new ends.0 ends.1

pub once_goes_on : (feeds left : Left) (old new : RootKnown) → FeedsOnce feeds left old new
    → GoesOn feeds left old new
once_goes_on None left old new once = stays None left old new once.0 once.1
once_goes_on (Some feeds) left old new once =
    goes_on (next_goes_on feeds once.0 old once.1 once.2) (end_goes_on once.0 left once.1 new once.3)

-- a poll that is due keeps the feeds left
if_goes_on : (due : Bool) (left : Left) (old new : RootKnown) → PollsIf due old new → GoesOn left left old new
if_goes_on true left old new polls = poll_goes_on left old new old.net.setting.game.graph.vertices polls
if_goes_on false left old new same = stays left left old new refl same

-- worker 0 leads the root in this way
pub led_goes_on : (round k : ℕ) (feeds left : Left) (old now : RootKnown) → IsLed round k feeds old left now
    → GoesOn feeds left old now
led_goes_on round zero feeds left old now led = stays feeds left old now led.0 led.1
led_goes_on round (suc k) feeds left old now (rest, before, fed, led, once, polls) =
    goes_on (led_goes_on round k feeds rest old before led)
    (goes_on (once_goes_on rest left before fed once) (if_goes_on (suc k % round == 0) left fed now polls))

-- a closed root has no feeds left
pub over_has_fed : (left : Left) (root : RootKnown) → MayFeedLeft root left → has_ended root ≡ true → left ≡ None
over_has_fed None root may ended = refl
over_has_fed (Some left) root may ended = absurd (cc)

module _ (g : Setting) (v : ℕ) where
  settle_less : (x : Event) (seen : ℕ) (s : Part) → IsSettle x → deficit_of g v (does g (saw x seen) s) ≤ deficit_of g v s
  settle_less (Settle e) seen s is = tested_le (all_edges g) (λ i. tail_of g i == v)
      (λ i. outstanding_on ((does g (saw (Settle e) seen) s).out i)) (λ i. outstanding_on (s.out i))
      (λ i l on. grind (arith, nat_tests))
  settle_less _ seen s is = absurd is

  settles_less : (xs : List Step) (s : Part) → All IsSettle (events_of xs) → deficit_of g v (part_by g s xs) ≤ deficit_of g v s
  settles_less [] s are = omega arith
  settles_less (x ∷ xs) s are =
      let here = settle_less x.event x.seen s (All-head IsSettle x.event (events_of xs) are) in
      let rest = settles_less xs (does g x s) (All-tail IsSettle x.event (events_of xs) are) in omega arith

pub over_polled : (old now : RootKnown) (n : ℕ) → IsPolling old now n → IsRootOver old → IsRootOver now
over_polled old now n polls over =
    let g = old.net.setting in
    let less = settles_less g (root g) polls.steps (root_part old)
    (rw polls.events_are (are_settles g 0 n)) in
    let same = ap (deficit_of g (root g)) (part_append g (opening_part g) old.did polls.steps) in
    let is = ap root_deficit polls.record_is in
    (omega arith, rw (poll_adds old now n polls).ended_is over.1)

-- nothing more is fed
pub over_fed : (left after : Left) (old new : RootKnown) → MayFeedLeft old left → FeedsOnce left after old new → IsRootOver old
    → IsRootOver new
over_fed left after old new may once over =
    let same = rw (over_has_fed left old may over.1) at once in rw same.1 over
