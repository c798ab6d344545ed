use Rattle.chip_crew.proofs.Names.{◌≡◌, ℕ, ◌≤◌, sym, arith, false, Bool, rules, false-eqb, NetId, Asked}
use Rattle.chip_crew.proofs.Names.{ShutFor, ServesTurns, HasMade, HasWorked, round_of, queue_of, Share}
use Rattle.chip_crew.proofs.LeadingLemmas.{serves_more, serves_round, round_over}
use Rattle.chip_crew.proofs.worker.Worker.work.Goals.{else-loop-turns-test, then-loop-turns-test+else-not-load}
use Rattle.chip_crew.proofs.worker.Worker.work.Goals.{then-loop-turns-test+then-not-load+then-made-round}
use Rattle.chip_crew.proofs.worker.Worker.work.Goals.{then-loop-turns-test+then-not-load+else-made-round+then-end_round}
use Rattle.chip_crew.proofs.worker.Worker.work.Goals as goal

-- what a worker gives back that made its turns and did its duties
has_worked : {B D : Type 0} (asked : Asked) (can : NetId → D → Type 0) (before : ℕ → D → D → Type 0)
    (after : D → D → Type 0) (worker : ℕ) (own : Share B) (begun : D) (s t : Share B) (d e : D) (p q : Bool)
    (n m round : ℕ)
    → t ≡ s → e ≡ d → q ≡ p → m ≡ n → n ≤ asked.plan.turns → HasMade asked worker n s
    → (p ≡ false → ShutFor asked worker) → queue_of s ≡ queue_of own → round ≡ round_of s
    → ServesTurns before after round n begun d → can asked.crew.net d
    → HasWorked asked can before after worker own begun (record { share = t; duties = e; passed = q; turns = m })
has_worked {B} {D} asked can before after worker own begun s t d e p q n m round share_is duties_is passed_is turns_is
    few made shut uses round_is served can_still =
    rw (share_is, duties_is, passed_is, turns_is) (record {
      is_handed = record { at_most = few; made = made; passed = shut };
      uses = uses;
      served = rw round_is at served;
      can_still = can_still;
    })

pub loop-turns-preserved : goal.loop-turns-preserved
loop-turns-preserved g c =
    let i = c.loop-turns.invariant in
    let whole : c.round-made.result ≡ c.round-round.result = omega arith in
    record {
      made = c.round-made.ensures.made;
      few = search rules;
      some = i.some;
      round = cc;
      uses = cc;
      begins = round_over c.round-round.result c.loop-turns.turns c.round-made.result whole i.begins;
      can = search rules;
      goes_on = search rules;
      served = serves_round g.D.Duties.before g.D.Duties.after c.round-round.result c.loop-turns.turns c.round-made.result
          c.args.self.duties c.loop-turns.duties c.round-made.new.duties c.end_round.new.self whole i.begins i.some i.served
          c.round-made.ensures.done c.end_round.ensures.done;
      passed = i.passed;
    }

pub returns : goal.returns
returns g c =
    let i = c.loop-turns.invariant in
    let worked = has_worked g.B.Crew.asked g.D.Duties.can g.D.Duties.before g.D.Duties.after c.args.self.number
    c.args.self.share c.args.self.duties in
    let passed : c.loop-turns.passed ≡ false → ShutFor g.B.Crew.asked c.args.self.number =
    λ no. (let yes = i.passed in cc) in
    elim c.loop-turns-test.branch [
      | else-loop-turns-test w ↦ worked _ _ _ _ _ _ _ _ _ w.share-is w.duties-is w.passed-is w.turns-is i.few i.made
          passed i.uses i.round i.served i.can
      | then-loop-turns-test+else-not-load w ↦ worked _ _ _ _ _ _ _ _ _ w.share-is w.duties-is w.passed-is w.turns-is
          i.few i.made passed i.uses i.round i.served i.can
      | then-loop-turns-test+then-not-load+then-made-round w ↦
          let made = w.round-made.ensures in
          worked _ _ _ _ _ _ _ _ _ w.share-is w.duties-is w.passed-is w.turns-is (rw (← c.shared.invariant.plan_is) (omega arith)) made.made
          (λ no. made.round.shut (let other = false-eqb w.round-made.result w.min-most.result (sym no) in omega arith))
          (cc) (cc)
          (serves_more g.D.Duties.before g.D.Duties.after c.round-round.result c.loop-turns.turns w.round-made.result
          c.args.self.duties c.loop-turns.duties w.round-made.new.duties i.begins w.if-made-round.true i.served made.done)
          made.can
      | then-loop-turns-test+then-not-load+else-made-round+then-end_round w ↦
          let made = w.round-made.ensures in
          let whole : w.round-made.result ≡ c.round-round.result = omega arith in
          worked _ _ _ _ _ _ _ _ _ w.share-is w.duties-is w.passed-is w.turns-is (rw (← c.shared.invariant.plan_is) (omega arith)) made.made passed
          (cc) (cc)
          (serves_round g.D.Duties.before g.D.Duties.after c.round-round.result c.loop-turns.turns w.round-made.result
          c.args.self.duties c.loop-turns.duties w.round-made.new.duties w.end_round.new.self whole i.begins i.some i.served
          made.done w.end_round.ensures.done) (search (rules, c.shared.invariant.net_is))
    ]
