use Rattle.chip_flooding.specs.Running.{AreOpeningProcesses}
use Rattle.chip_flooding.proofs.run.Run.new.Given as goal

abbrev pub invariant-loop-part : goal.invariant-loop-part
invariant-loop-part l = AreOpeningProcesses l.topology l.part l.processes.items
