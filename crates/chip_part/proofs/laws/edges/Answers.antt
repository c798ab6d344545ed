use Rattle.chip_part.proofs.EdgeLemmas.{sums_add_root_edges}
use Rattle.chip_part.proofs.laws.edges.Goals as goal

pub returns : goal.returns
returns c = record { sums = sums_add_root_edges }
