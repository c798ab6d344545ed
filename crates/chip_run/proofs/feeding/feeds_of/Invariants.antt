use Rattle.std.proofs.Common.{◌≡◌, take}
use Rattle.std.specs.List.{enumerate_from}
use Rattle.chip_run.specs.Feeding.{has_chips}
use Rattle.std.specs.List.{filter}
use Rattle.chip_run.proofs.feeding.feeds_of.Given as goal

abbrev pub invariant-loop-vertex : goal.invariant-loop-vertex
invariant-loop-vertex l = l.feeds.items ≡ filter has_chips (take l.vertex (enumerate_from 0 l.chips))
