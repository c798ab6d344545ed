-- Serves CallFaults.antt.
-- What the sizes of lists say of their graph.
use Rattle.std.proofs.Common.{◌≡◌, ℕ, zero, suc, List, length, Ok, Err, refl, arith, None, inl, inr}
use Rattle.std.proofs.lemmas.List.{length_push}
use Rattle.chip_graph.specs.declared.fault.GraphFault.{GraphFault}
use Rattle.chip_graph.specs.Limits.{large}
use Rattle.chip_graph.specs.Faults.{MakesGraph, fault_of_sizes, refusal}
use Rattle.chip_graph.proofs.FaultLemmas.{accepted, told}
use Rattle.chip_library.specs.declared.edges.EdgeLists.{EdgeLists}
use Rattle.chip_library.specs.EdgeLists.{edges_below, graph_of}

edges_each : (tails heads mults : List ℕ) (n : ℕ) → length (edges_below tails heads mults n) ≡ n
edges_each tails heads mults zero = refl
edges_each tails heads mults (suc n) = omega (arith, edges_each tails heads mults n, length_push (edges_below tails heads mults n))

-- sizes without a fault
pub sizes_pass : (lists : EdgeLists) → Ok tt ≡ refusal (fault_of_sizes large lists.vertices lists.sink (length lists.tails.now))
    → fault_of_sizes large (graph_of lists).vertices (graph_of lists).sink (length (graph_of lists).edges) ≡ None
sizes_pass lists passed = rw edges_each (accepted _ passed)

-- the first fault of the sizes is that of the graph
pub sizes_refuse : (lists : EdgeLists) (fault : GraphFault)
    → Err fault ≡ refusal (fault_of_sizes large lists.vertices lists.sink (length lists.tails.now))
    → MakesGraph large (graph_of lists) (Err fault)
sizes_refuse lists fault refused = inr (inl (rw (edges_each, told _ _ refused) refl))
