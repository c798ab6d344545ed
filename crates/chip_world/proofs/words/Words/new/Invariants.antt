use Rattle.chip_world.proofs.Names.{◌≤◌, vec_capacity, AreOpeningWords}
use Rattle.chip_world.proofs.words.Words.new.Given as goal

abbrev pub invariant-loop-edge : goal.invariant-loop-edge
invariant-loop-edge l = AreOpeningWords l.setting l.edge l.edges.items
    × (l.all_edges ≤ vec_capacity l.edges)
