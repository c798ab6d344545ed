use Rattle.chip_world.proofs.Names.{◌≡◌, ◌+◌, suc, ◌∙◌, refl, sym, arith, true≢false, IsDrive}
use Rattle.chip_world.proofs.Names.{Closed, Unfinished}
use Rattle.chip_world.proofs.ClosesLemmas.{drive_closes}
use Rattle.chip_world.proofs.DeterminedLemmas.{no_other}
use Rattle.chip_world.proofs.EnoughLemmas.{closes_in}
use Rattle.chip_world.proofs.world.World.drive.Goals as goal

pub loop-preserved : goal.loop-preserved
loop-preserved c = λ g before stands.
    let here = c.loop.invariant g before stands in
    let closes = c.closed.ensures g here.0 here.1 in
    let after = c.round.ensures g here.0 here.1 in
    let more : suc c.loop.counter ≡ c.loop.counter + 1 = omega arith in (
      after.0,
      after.1,
      rw (← more) (here.0, here.2, (λ is_closed. true≢false (sym (closes.1 is_closed) ∙ c.if-closed.false)), after.2),
    )

pub returns-then-closed-clause-no_other : goal.returns-then-closed-clause-no_other
returns-then-closed-clause-no_other c = no_other c.args.self.now c.loop.self c.args.rounds Closed (λ g before stands.
    (let here = c.loop.invariant g before stands in
    let fewer = c.loop-test.true in
    let drive : IsDrive g c.args.rounds before here.0 Closed =
    record {
      count = c.loop.counter;
      within = omega arith;
      are_rounds = here.2;
      answers = (c.closed.ensures g here.0 here.1).0 c.if-closed.true;
    } in
    (here.0, here.1, drive)))

pub returns-then-closed-2-clause-no_other : goal.returns-then-closed-2-clause-no_other
returns-then-closed-2-clause-no_other c = no_other c.args.self.now c.loop.self c.args.rounds Closed (λ g before stands.
    (let here = c.loop.invariant g before stands in
    let drive : IsDrive g c.args.rounds before here.0 Closed =
    record {
      count = c.loop.counter;
      within = c.loop.auto.counter-end;
      are_rounds = here.2;
      answers = (c.closed-2.ensures g here.0 here.1).0 c.if-closed-2.true;
    } in
    (here.0, here.1, drive)))

pub returns-else-closed-2-clause-drives : goal.returns-else-closed-2-clause-drives
returns-else-closed-2-clause-drives c = λ g before stands.
    let here = c.loop.invariant g before stands in
    let closes = c.closed-2.ensures g here.0 here.1 in
    let below = c.loop.auto.counter-end in
    let above = c.loop-test.false in
    let all : c.loop.counter ≡ c.args.rounds = omega arith in
    let drive : IsDrive g c.args.rounds before here.0 (Unfinished c.args.rounds) =
    record {
      count = c.loop.counter;
      within = below;
      are_rounds = here.2;
      answers = (refl, all, (λ is_closed. true≢false (sym (closes.1 is_closed) ∙ c.if-closed-2.false)));
    } in
    (here.0, here.1, drive)

pub returns-else-closed-2-clause-no_other : goal.returns-else-closed-2-clause-no_other
returns-else-closed-2-clause-no_other c = no_other c.args.self.now c.loop.self c.args.rounds (Unfinished c.args.rounds)
    (returns-else-closed-2-clause-drives c)

pub returns-else-closed-2-clause-closes : goal.returns-else-closed-2-clause-closes
returns-else-closed-2-clause-closes c = λ g before stands end put fired bounds enough.
    let is = returns-else-closed-2-clause-drives c g before stands in
    drive_closes g stands.is_setting.game stands.is_setting.some_ring before is.0 stands.legal end put fired bounds
    c.args.rounds enough (Unfinished c.args.rounds) is.2

pub returns-else-closed-2-clause-closes_in : goal.returns-else-closed-2-clause-closes_in
returns-else-closed-2-clause-closes_in c = closes_in c.args.self.now c.args.rounds (Unfinished c.args.rounds)
    (returns-else-closed-2-clause-closes c)
