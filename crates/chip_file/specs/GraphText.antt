-- The graph that a text of JSON means, and what is wrong with a text that means none.
use Rattle.std.specs.Prelude.{◌≡◌, ◌≢◌, ℕ, ◌==◌, if◌then◌else◌, List, Option, None, Some, option_and_then}
use Rattle.serde_json.specs.Data.{Data}
use Rattle.chip_graph.specs.Limits.{SizeLimits}
use Rattle.chip_graph.specs.Multigraph.{Multigraph, IsGraphWithin}
use Rattle.chip_graph.specs.Faults.{IsGraphFault}
use Rattle.chip_file.specs.GraphFile.{GraphFile, json_of, file_of_value}
use Rattle.chip_file.specs.JsonParts.{KeepsGraph}
use Rattle.chip_file.specs.declared.graph_text.file.GraphFile.{GraphFile as Kept}
use Rattle.chip_file.specs.declared.fault.FileFault.{FileFault}
use Rattle.chip_file.specs.declared.fault.FileFault.TheVariants as fault

-- the graph file that a text is
abbrev pub file_of_text : List ℕ → Option GraphFile
file_of_text text = option_and_then file_of_value (json_of text)

-- the rows of a file of version 1
abbrev pub graph_of_file : GraphFile → Option Multigraph
graph_of_file file = if file.version == 1 then Some file.graph else None

-- the graph that a text means, valid or not
abbrev pub graph_of_text : List ℕ → Option Multigraph
graph_of_text text = option_and_then graph_of_file (file_of_text text)

-- the text means a graph, valid or not, of which this is kept: with all edges, or with more than the limits allow
abbrev pub IsKeptText : SizeLimits → List ℕ → Kept → Type 0
IsKeptText limits text kept =
    (graph : Multigraph) × (graph_of_text text ≡ Some graph) × KeepsGraph limits.edges graph kept

-- the text means this graph, and it is one within the limits
pub record MeansGraph (limits : SizeLimits) (text : List ℕ) (graph : Multigraph) : Type 0 where
  pub meaning : graph_of_text text ≡ Some graph
  pub valid : IsGraphWithin limits graph

-- the first thing wrong with a text of a graph
abbrev pub IsGraphTextFault : SizeLimits → List ℕ → FileFault → Type 0
IsGraphTextFault limits text fault.NotJson = json_of text ≡ None
IsGraphTextFault limits text fault.Shape = (d : Data) × (json_of text ≡ Some d) × (file_of_value d ≡ None)
IsGraphTextFault limits text fault.Version = (file : GraphFile) × (file_of_text text ≡ Some file) × (file.version ≢ 1)
IsGraphTextFault limits text (fault.Graph f) =
    (graph : Multigraph) × (graph_of_text text ≡ Some graph) × IsGraphFault limits graph f
IsGraphTextFault limits text _ = ⊥
