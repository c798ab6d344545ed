use Rattle.std.proofs.Common.{true, take, string_bytes}
use Rattle.chip_engine.proofs.ScheduleLemmas.{HasRun}
use Rattle.chip_engine.proofs.simulate.step_by_step.Given as goal

abbrev pub invariant-loop-event : goal.invariant-loop-event
invariant-loop-event l = HasRun true l.fn.world.setting (take l.event-index l.events) l.world (string_bytes l.lines)
