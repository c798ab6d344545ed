use Rattle.chip_flooding.proofs.Names.{◌≡◌, IsFlooded, unfinished}
use Rattle.chip_flooding.proofs.flooding.Flood.finish.Given as goal

abbrev pub invariant-loop-marking : goal.invariant-loop-marking
invariant-loop-marking l = record { topology : l.marking.run.topology ≡ l.fn.self; flooded : IsFlooded l.marking }

abbrev pub decreases-loop-marking : goal.decreases-loop-marking
decreases-loop-marking l = unfinished l.marking
