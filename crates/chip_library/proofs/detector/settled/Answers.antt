use Rattle.std.proofs.Common.{arith}
use Rattle.chip_library.proofs.detector.settled.Goals as goal

pub returns : goal.returns
returns c = c.settled_within.ensures.settles (λ are. omega (arith, are.within c.args.edge))
