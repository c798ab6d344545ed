use Rattle.chip_trace.proofs.Names.{map, ReplayGoesOn, work_left}
use Rattle.chip_trace.proofs.replaying.advance.Given as goal

abbrev pub invariant-loop-row : goal.invariant-loop-row
invariant-loop-row l = ReplayGoesOn l.game (map (λ t. t.items) l.traces) l.initial.progress l.initial.agenda l.progress
    l.agenda

abbrev pub decreases-loop-row : goal.decreases-loop-row
decreases-loop-row l = work_left (map (λ t. t.items) l.traces) l.progress l.agenda
