-- Which rows are recurrent.
use Rattle.std.specs.Prelude.{◌≡◌, ◌⊎◌, ◌↔◌, ℕ, ◌+◌, ◌<◌, ◌≤◌, List, length, slice_index}
use Rattle.chip_graph.specs.Multigraph.{Multigraph, IsGraph}
use Rattle.chip_sequence.specs.Firing.{IsStable}
use Rattle.chip_group.specs.Recurrent.{IsRecurrent}
use Rattle.chip_recurrent.specs.Stabilizations.{StabilizesWithin, IsFaultOfRow}
use Rattle.chip_recurrent.specs.Burning.{IsLeastScript, burning_start}
use Rattle.chip_recurrent.specs.Rows.{row, IsFirstRowFault}
use Rattle.chip_recurrent.specs.declared.fault.RowFault.{RowFault}
use Rattle.chip_recurrent.specs.declared.fault.RowFault.TheVariants.{NoMemory}

-- x with the chips of a burning script added
abbrev pub burning_sum : (b x : ℕ → ℕ) → ℕ → ℕ
burning_sum b x v = x v + b v

-- the flag is 1 if x is recurrent, else 0; and if x is stable, its sum with b has a stabilization within the limits
pub record IsTested (G : Multigraph) (b x : ℕ → ℕ) (flag : ℕ) : Type 0 where
  pub low : flag ≤ 1
  pub recurrent : (flag ≡ 1) ↔ IsRecurrent G x
  pub within : IsStable G x → (c : ℕ → ℕ) × StabilizesWithin G (burning_sum b x) c

-- x is stable, and its sum with b has this fault; or memory ran out
abbrev pub IsFaultOfTest : Multigraph → (b x : ℕ → ℕ) → ℕ → RowFault → Type 0
IsFaultOfTest G b x number fault =
    (fault ≡ NoMemory) ⊎ (IsStable G x × IsFaultOfRow G (burning_sum b x) number fault)

-- configuration i of these
abbrev pub configuration : Multigraph → List ℕ → ℕ → ℕ → ℕ
configuration G chips i = slice_index (row G.vertices chips i)

-- the flags of `count` rows, by the chips b of a burning script
pub record AreTestedBy (G : Multigraph) (b : ℕ → ℕ) (chips : List ℕ) (count : ℕ) (flags : List ℕ) : Type 0 where
  pub flags_each : length flags ≡ count
  pub each : (i : ℕ) → i < count → IsTested G b (configuration G chips i) (slice_index flags i)

-- the first of `count` rows with a fault has this one; or memory ran out
abbrev pub IsFirstFaultOfTests : Multigraph → (b : ℕ → ℕ) → List ℕ → ℕ → RowFault → Type 0
IsFirstFaultOfTests G b chips count fault =
    (fault ≡ NoMemory)
    ⊎ IsFirstRowFault count (λ i. (flag : ℕ) × IsTested G b (configuration G chips i) flag)
    (λ i. IsFaultOfTest G b (configuration G chips i) i fault)

-- the flags of `count` rows, by the chips of the least burning script, which is found within the limits
pub record AreTested (G : Multigraph) (chips : List ℕ) (count : ℕ) (flags : List ℕ) : Type 0 where
  pub is_graph : IsGraph G
  pub burning : (c : ℕ → ℕ) × StabilizesWithin G (burning_start G) c
  pub tested : (s : ℕ → ℕ) × (b : ℕ → ℕ) × IsLeastScript G s b × AreTestedBy G b chips count flags

-- the first fault: of the burning script, else of a row
abbrev pub IsFaultOfTests : Multigraph → List ℕ → ℕ → RowFault → Type 0
IsFaultOfTests G chips count fault =
    IsFaultOfRow G (burning_start G) 0 fault
    ⊎ ((s : ℕ → ℕ) × (b : ℕ → ℕ) × IsLeastScript G s b × IsFirstFaultOfTests G b chips count fault)
