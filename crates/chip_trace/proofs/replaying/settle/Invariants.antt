use Rattle.chip_trace.proofs.Names.{map, ReplayGoesOn, work_left}
use Rattle.chip_trace.proofs.replaying.settle.Given as goal

abbrev pub invariant-loop-progress : goal.invariant-loop-progress
invariant-loop-progress l = ReplayGoesOn l.game (map (λ t. t.items) l.traces) l.initial.progress l.initial.agenda l.progress
    l.agenda

abbrev pub decreases-loop-progress : goal.decreases-loop-progress
decreases-loop-progress l = work_left (map (λ t. t.items) l.traces) l.progress l.agenda
