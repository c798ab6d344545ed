use Rattle.chip_trace.proofs.ReplayLemmas.{use_goes_on, GoesOn-trans}
use Rattle.chip_trace.proofs.replaying.advance.Goals as goal

pub loop-row-smaller : goal.loop-row-smaller
loop-row-smaller c =
    (use_goes_on c.loop-row.agenda c.use_met.new.progress c.use_met.new.agenda c.requires.is_vertex
    c.loop-row.invariant.kept c.in-Met.ensures c.in_ok-use_met-in-Met.ensures.uses c.use_met.ensures.same
    c.use_met.ensures.few).1

pub loop-row-preserved : goal.loop-row-preserved
loop-row-preserved c =
    GoesOn-trans c.loop-row.invariant
    (use_goes_on c.loop-row.agenda c.use_met.new.progress c.use_met.new.agenda c.requires.is_vertex
    c.loop-row.invariant.kept c.in-Met.ensures c.in_ok-use_met-in-Met.ensures.uses c.use_met.ensures.same
    c.use_met.ensures.few).0
