-- Burning scripts, recurrent and superstable configurations, and the identity of the sandpile group.
use Rattle.std.specs.Prelude.{◌≡◌, ◌⊎◌, ℕ, ◌*◌, List, length, Result, Ok, Err}
use Rattle.chip_graph.specs.Multigraph.{Multigraph, IsGraph}
use Rattle.chip_recurrent.specs.Stabilizations.{IsFaultOfRow}
use Rattle.chip_recurrent.specs.Burning.{IsBurning, burning_start}
use Rattle.chip_recurrent.specs.Recurrents.{AreTested, IsFaultOfTests}
use Rattle.chip_recurrent.specs.Representatives.{AreRepresented, IsFaultOfForms, IsFoundIdentity, IsFaultOfIdentity}
use Rattle.chip_recurrent.specs.Drawn.{AreRecurrents, IsFaultOfDraws}
use Rattle.chip_recurrent.specs.declared.classes.Form.{Form}
use Rattle.chip_recurrent.specs.declared.fault.RowFault.{RowFault}
use Rattle.chip_recurrent.specs.declared.fault.RowFault.TheVariants as row_fault
use Rattle.chip_library.specs.declared.edges.EdgeLists.{EdgeLists}
use Rattle.chip_library.specs.declared.fault.CallFault.{CallFault}
use Rattle.chip_library.specs.declared.fault.CallFault.TheVariants.{Lengths, Total, Stopped, NoMemory}
use Rattle.chip_library.specs.EdgeLists.{HasWholeRows, graph_of}
use Rattle.chip_library.specs.CallFaults.{IsFaultOfGraph}

-- these numbers are those of `rows` configurations, and the edge lists have one length
pub record HasRows (lists : EdgeLists) (rows : ℕ) (numbers : List ℕ) : Type 0 where
  pub edges : HasWholeRows lists
  pub numbers_each : length numbers ≡ rows * lists.vertices

-- the fault of a call, by that of a row
abbrev pub call_fault_of : RowFault → CallFault
call_fault_of (row_fault.Total row) = Total row
call_fault_of (row_fault.Stopped row) = Stopped row
call_fault_of row_fault.NoMemory = NoMemory

-- the first fault of a call: wrong lengths, else that of the graph, else this one
abbrev pub IsFirstFault : EdgeLists → (AreLengths : Type 0) → (RowFault → Type 0) → CallFault → Type 0
IsFirstFault lists AreLengths IsFault fault =
    ((fault ≡ Lengths) × (AreLengths → ⊥))
    ⊎ (AreLengths × IsFaultOfGraph (graph_of lists) fault)
    ⊎ (AreLengths × IsGraph (graph_of lists) × (row : RowFault) × (fault ≡ call_fault_of row) × IsFault row)

-- both slices have one number per vertex
abbrev pub AreBoth : EdgeLists → (script chips : List ℕ) → Type 0
AreBoth lists script chips = HasRows lists 1 script × HasRows lists 1 chips

-- the least burning script and its chips are written; or the first fault is returned, and the slices are unchanged
abbrev pub FindsBurning : EdgeLists → (script chips script' chips' : List ℕ) → Result (Unit {0}) CallFault → Type 0
FindsBurning lists script chips script' chips' (Ok done) =
    AreBoth lists script chips × IsGraph (graph_of lists) × IsBurning (graph_of lists) script' chips'
FindsBurning lists script chips script' chips' (Err fault) = ((script' ≡ script) × (chips' ≡ chips))
    × IsFirstFault lists (AreBoth lists script chips) (IsFaultOfRow (graph_of lists) (burning_start (graph_of lists)) 0) fault

-- for each row it is written whether it is recurrent; or the first fault is returned, and the flags are unchanged
abbrev pub TestsRows : EdgeLists → (chips flags flags' : List ℕ) → Result (Unit {0}) CallFault → Type 0
TestsRows lists chips flags flags' (Ok done) =
    HasRows lists (length flags) chips × IsGraph (graph_of lists) × AreTested (graph_of lists) chips (length flags) flags'
TestsRows lists chips flags flags' (Err fault) = (flags' ≡ flags)
    × IsFirstFault lists (HasRows lists (length flags) chips) (IsFaultOfTests (graph_of lists) chips (length flags)) fault

-- each row is replaced by its representative; or the first fault is returned, and the chips are unchanged
abbrev pub FindsForms : EdgeLists → Form → ℕ → (chips chips' : List ℕ) → Result (Unit {0}) CallFault → Type 0
FindsForms lists form rows chips chips' (Ok done) =
    HasRows lists rows chips × IsGraph (graph_of lists) × AreRepresented (graph_of lists) form chips rows chips'
FindsForms lists form rows chips chips' (Err fault) = (chips' ≡ chips)
    × IsFirstFault lists (HasRows lists rows chips) (IsFaultOfForms (graph_of lists) form chips rows) fault

-- the identity is written; or the first fault is returned, and the chips are unchanged
abbrev pub FindsIdentity : EdgeLists → (chips chips' : List ℕ) → Result (Unit {0}) CallFault → Type 0
FindsIdentity lists chips chips' (Ok done) =
    HasRows lists 1 chips × IsGraph (graph_of lists) × IsFoundIdentity (graph_of lists) chips'
FindsIdentity lists chips chips' (Err fault) = (chips' ≡ chips)
    × IsFirstFault lists (HasRows lists 1 chips) (IsFaultOfIdentity (graph_of lists)) fault

-- recurrent configurations are written; or the first fault is returned, and the chips are unchanged
abbrev pub DrawsRows : EdgeLists → ℕ → (chips chips' : List ℕ) → Result (Unit {0}) CallFault → Type 0
DrawsRows lists rows chips chips' (Ok done) =
    HasRows lists rows chips × IsGraph (graph_of lists) × AreRecurrents (graph_of lists) rows chips'
DrawsRows lists rows chips chips' (Err fault) = (chips' ≡ chips)
    × IsFirstFault lists (HasRows lists rows chips) (IsFaultOfDraws (graph_of lists) rows) fault

-- recurrent configurations of this graph are written; or the first fault is returned, of the length or of the draws, and
-- the chips are unchanged
abbrev pub DrawsOn : Multigraph → ℕ → (chips chips' : List ℕ) → Result (Unit {0}) CallFault → Type 0
DrawsOn G rows chips chips' (Ok done) = (length chips ≡ rows * G.vertices) × AreRecurrents G rows chips'
DrawsOn G rows chips chips' (Err fault) = (chips' ≡ chips)
    × (((fault ≡ Lengths) × (length chips ≡ rows * G.vertices → ⊥))
    ⊎ ((length chips ≡ rows * G.vertices) × (row : RowFault) × (fault ≡ call_fault_of row) × IsFaultOfDraws G rows row))
