use Rattle.chip_trace.proofs.Names.{map, ReplayGoesOn, work_left}
use Rattle.chip_trace.proofs.replaying.run_agenda.Given as goal

abbrev pub invariant-loop-vertex : goal.invariant-loop-vertex
invariant-loop-vertex l = ReplayGoesOn l.game (map (λ t. t.items) l.traces) l.initial.progress l.initial.agenda l.progress
    l.agenda

abbrev pub decreases-loop-vertex : goal.decreases-loop-vertex
decreases-loop-vertex l = work_left (map (λ t. t.items) l.traces) l.progress l.agenda
