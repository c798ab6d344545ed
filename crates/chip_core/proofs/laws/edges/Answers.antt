use Rattle.chip_core.proofs.NumberLemmas.{counts_of_edges, numbers}
use Rattle.chip_core.proofs.PositionLemmas.{edge_sum}
use Rattle.chip_core.proofs.laws.edges.Goals as goal

pub returns : goal.returns
returns c = record { counts = counts_of_edges; chips = edge_sum; numbers = numbers }
