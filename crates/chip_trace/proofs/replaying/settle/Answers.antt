use Rattle.chip_trace.proofs.Names.{arith}
use Rattle.chip_trace.proofs.ReplayLemmas.{use_goes_on, GoesOn-trans}
use Rattle.chip_trace.proofs.replaying.settle.Goals as goal

pub loop-progress-smaller : goal.loop-progress-smaller
loop-progress-smaller c =
    let on = c.in_ok-run_agenda.ensures in
    let less = (use_goes_on c.run_agenda.new.agenda c.use_met.new.progress c.use_met.new.agenda c.in-Some.ensures.0
    on.kept c.in-Some.ensures.1 c.in_ok-use_met-in-Some.ensures.uses c.use_met.ensures.same c.use_met.ensures.few).1 in
    let work = on.work in omega arith

pub loop-progress-preserved : goal.loop-progress-preserved
loop-progress-preserved c =
    let on = c.in_ok-run_agenda.ensures in
    GoesOn-trans (GoesOn-trans c.loop-progress.invariant on)
    (use_goes_on c.run_agenda.new.agenda c.use_met.new.progress c.use_met.new.agenda c.in-Some.ensures.0
    on.kept c.in-Some.ensures.1 c.in_ok-use_met-in-Some.ensures.uses c.use_met.ensures.same c.use_met.ensures.few).0
