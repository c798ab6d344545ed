-- Theorems on every graph and fault.
use Rattle.std.specs.Prelude.{◌≡◌}
use Rattle.chip_graph.specs.declared.fault.GraphFault.{GraphFault}
use Rattle.chip_graph.specs.Limits.{SizeLimits}
use Rattle.chip_graph.specs.Multigraph.{Multigraph, IsGraphWithin}
use Rattle.chip_graph.specs.Faults.{IsGraphFault}

-- a graph within the limits has no fault, and nothing has two first faults
abbrev pub OneFault : Type 0
OneFault =
    (limits : SizeLimits) (G : Multigraph) (fault : GraphFault) → IsGraphFault limits G fault
    → (IsGraphWithin limits G → ⊥) × ((other : GraphFault) → IsGraphFault limits G other → other ≡ fault)
