use Rattle.chip_flooding.proofs.Names.{◌≤◌, length, AreAll}
use Rattle.chip_flooding.proofs.RunLemmas.{IsEnd}
use Rattle.chip_flooding.proofs.process.edges_at.Given as goal

abbrev pub invariant-loop-edge : goal.invariant-loop-edge
invariant-loop-edge l =
    record { all : AreAll l.edges.items (IsEnd l.ends l.part l.edge); no_more : length l.edges.items ≤ l.edge }
