use Rattle.chip_crew.proofs.Names.{◌≡◌, ℕ, ◌+◌, ◌<◌, length, refl, ap, arith, true, false, Bool, rules}
use Rattle.chip_crew.proofs.Names.{◌&&◌, Asked, SomeShut, ShutFor, IsRoundOfTurns, queue_for, HasMade, round_of}
use Rattle.chip_crew.proofs.Names.{IsWorker, Share}
use Rattle.chip_crew.proofs.RunLemmas.{from_tail}
use Rattle.chip_crew.proofs.DealingLemmas.{cut_first}
use Rattle.chip_crew.specs.declared.worker.Share.TheVariants as share
use Rattle.chip_crew.proofs.joining.join_all.Goals as goal

-- `turns` turns make a round of worker 0
first_round : {B : Type 0} (asked : Asked) (turns : ℕ) (h : Share B) → HasMade asked 0 turns h
    → IsRoundOfTurns asked.crew (round_of h) × (0 < round_of h)
first_round asked turns (share.Queue queue pass kept) made = (rw made.0 refl, omega arith)
first_round asked turns (share.Dealt d) made =
    let zero_is = cut_first asked.crew.net.setting.game.graph asked.crew.workers made.1.from made.1.is_first in
    let from_zero : made.1.from + length d.items ≡ length d.items = omega arith in
    (rw made.0 (length d.items, rw from_zero at made.1.is_next, refl), omega arith)

-- one of the gates was shut where one of those before was, or the last one
shut_some : (asked : Asked) (worker : ℕ) (old passed new : Bool) → new ≡ (old && passed)
    → (old ≡ false → SomeShut asked.may_answer asked.crew.workers asked.plan.turns)
    → (passed ≡ false → ShutFor asked worker) → worker < asked.crew.workers → new ≡ false
    → SomeShut asked.may_answer asked.crew.workers asked.plan.turns
shut_some asked worker false passed new is before here less nay = before refl
shut_some asked worker true passed new is before here less nay =
    let shut = here (rw is at nay) in (worker, shut.0, less, shut.1, shut.2)

pub take-requires-clause-made : goal.take-requires-clause-made
take-requires-clause-made g c =
    let h = rw c.requires.leader.0.number_is at c.join-share.ensures.is_handed in
    (c.join-share.result.turns, h.at_most, h.made)

pub loop-started-init : goal.loop-started-init
loop-started-init g c =
    let taken = c.take.ensures in
    let h = rw c.requires.leader.0.number_is at c.join-share.ensures.is_handed in
    let rest = c.into_iter-started-iterator.ensures.into_iter_gives.0 in
    record {
      are_back = taken.are_back;
      passed = shut_some g.B.Crew.asked 0 true c.join-share.result.passed c.take.new.self.passed taken.passed_is
          (λ nay. cc) h.passed (omega arith);
      workers = rw (taken.workers, rest) c.requires.others;
      uses = taken.uses;
      left = (let many = ap length rest in omega arith);
    }

pub take-requires-in-loop-started-clause-made : goal.take-requires-in-loop-started-clause-made
take-requires-in-loop-started-clause-made g c =
    let first = (rw c.in-Some.ensures.steps.0 at c.loop-started.invariant.workers).0 in
    let h = rw first.number_is at c.join-share-in-loop-started.ensures.is_handed in
    (c.join-share-in-loop-started.result.turns, h.at_most, h.made)

pub loop-started-preserved : goal.loop-started-preserved
loop-started-preserved g c =
    let i = c.loop-started.invariant in
    let taken = c.take-in-loop-started.ensures in
    let old = c.loop-started.collected in
    let steps = c.in-Some.ensures.steps.0 in
    let h = rw (rw steps at i.workers).0.number_is at c.join-share-in-loop-started.ensures.is_handed in
    let many = ap length steps in
    record {
      are_back = taken.are_back;
      passed = shut_some g.B.Crew.asked old.workers old.passed c.join-share-in-loop-started.result.passed
          c.take-in-loop-started.new.self.passed taken.passed_is i.passed h.passed (omega arith);
      workers = rw taken.workers (from_tail (λ worker h. IsWorker g.B.Crew.asked (queue_for c.args.back) worker h.promise)
          old.workers _ _ c.in-Some.started steps i.workers);
      uses = cc;
      left = omega arith;
    }

pub returns : goal.returns
returns g c =
    let h = rw c.requires.leader.0.number_is at c.join-share.ensures.is_handed in
    let round = first_round g.B.Crew.asked c.join-share.result.turns c.join-share.result.share h.made in
    record {
      led = rw c.round-round.ensures (record {
        first = c.args.leader.promise.duties.value;
        begins = c.requires.leader.1;
        is_round = round.0;
        some = round.1;
        at_most = h.at_most;
        served = c.join-share.ensures.served;
        can = c.join-share.ensures.can_still;
      });
      are_back = search rules;
      passed = c.loop-started.invariant.passed;
    }
