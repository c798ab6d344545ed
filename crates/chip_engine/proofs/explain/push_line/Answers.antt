use Rattle.std.proofs.Common.{rules, append_assoc}
use Rattle.chip_engine.proofs.explain.push_line.Goals as goal

pub returns : goal.returns
returns c = search (rules, append_assoc)
