-- From the bytes of a graph file to the lines that show the graph.
use Rattle.std.specs.Prelude.{◌≡◌, ℕ, zero, suc, List, ◌++◌, length, codes, Option, Result}
use Rattle.std.specs.Fmt.{decimal}
use Rattle.chip_graph.specs.Limits.{SizeLimits}
use Rattle.chip_graph.specs.Multigraph.{Multigraph, IsGraph, IsDistance, degree}
use Rattle.chip_command.specs.CommandAnswers.{Spec, bind, CommandAnswers}
use Rattle.chip_command.specs.Inputs.{reading_graph}
use Rattle.chip_command.specs.declared.ended.Ended.{Ended}
use Rattle.chip_command.specs.declared.fault.Fault.{Fault}
use Rattle.chip_command.specs.declared.fault.Fault.TheVariants.{NoMemory}

-- the lines on the graph as a whole
abbrev pub head_text : Multigraph → List ℕ
head_text G =
    codes "vertices " ++ decimal G.vertices ++ codes "\nedges " ++ decimal (length G.edges)
    ++ codes "\nsink " ++ decimal G.sink ++ codes "\n"

-- the line of a vertex
abbrev pub vertex_text : ℕ → ℕ → ℕ → List ℕ
vertex_text v degree distance =
    codes "vertex " ++ decimal v ++ codes " degree " ++ decimal degree
    ++ codes " distance " ++ decimal distance ++ codes "\n"

-- the text shows the graph as a whole, and its vertices below n, each with its distance
abbrev pub IsShownBelow : Multigraph → ℕ → List ℕ → Type 0
IsShownBelow G zero text = text ≡ head_text G
IsShownBelow G (suc n) text = (before : List ℕ) × (distance : ℕ) × IsShownBelow G n before × IsDistance G n distance
    × (text ≡ before ++ vertex_text n (degree G n) distance)

-- showing a graph gives its lines, with status 0; or there is no memory
abbrev pub showing : Multigraph → Spec (List ℕ × ℕ)
showing G = record {
  gives = λ (lines, status). IsGraph G × IsShownBelow G G.vertices lines × (status ≡ 0);
  refuses = λ fault. fault ≡ NoMemory;
}

-- the results of `check` by these limits, of a reader whose text may be known
abbrev pub CheckAnswers : SizeLimits → Option (List ℕ) → Option (List ℕ) → Option (List ℕ) → Result Ended Fault → Type 0
CheckAnswers limits graph old new result = CommandAnswers (bind (reading_graph limits graph) showing) old new result
