-- The game that the files of a command mean, and why they mean none.
use Rattle.std.specs.Prelude.{◌≡◌, ◌⊎◌, ℕ, ◌<◌, ◌≤◌, length, List, Option, Some}
use Rattle.std.specs.Option.{ForSome}
use Rattle.chip_graph.specs.Limits.{SizeLimits}
use Rattle.chip_graph.specs.Multigraph.{Multigraph}
use Rattle.chip_graph.specs.ChipGame.{ChipGame, IsGame}
use Rattle.chip_graph.specs.Faults.{fault_of_game}
use Rattle.chip_graph.specs.declared.fault.GameFault.{GameFault}
use Rattle.chip_file.specs.Answer.{IsOfMachine}
use Rattle.chip_file.specs.GraphText.{MeansGraph, IsGraphTextFault}
use Rattle.chip_file.specs.ChipsText.{chips_of_text, chips_text_fault}
use Rattle.chip_file.specs.declared.fault.FileFault.{FileFault}
use Rattle.chip_file.specs.declared.fault.FileFault.TheVariants as file_fault
use Rattle.chip_command.specs.CommandAnswers.{Spec}
use Rattle.chip_command.specs.Faults.{fault_of_file}
use Rattle.chip_command.specs.declared.fault.Fault.{Fault}
use Rattle.chip_command.specs.declared.fault.Fault.TheVariants.{Game}

-- a text has no more bytes than the limits allow, and this meaning
abbrev pub ReadsWithin : SizeLimits → List ℕ → Type 0 → Type 0
ReadsWithin limits text meaning = (length text ≤ limits.bytes) × meaning

-- two texts and a limit name these numbers of a game, whether or not it is within the limits of a game
pub record NamesGame (limits : SizeLimits) (graph_text chips_text : List ℕ) (limit : ℕ) (g : ChipGame) : Type 0 where
  pub graph : ReadsWithin limits graph_text (MeansGraph limits graph_text g.graph)
  pub start : ReadsWithin limits chips_text (chips_of_text g.graph.vertices chips_text ≡ Some g.start)
  pub limited : g.limit ≡ limit

-- two texts and a limit mean this game
pub record MeansGame (limits : SizeLimits) (graph_text chips_text : List ℕ) (limit : ℕ) (g : ChipGame) : Type 0 where
  pub named : NamesGame limits graph_text chips_text limit g
  pub game : IsGame g

-- the machine failed on a text, or the text is too long, or it has this fault
abbrev pub IsInputRefused : SizeLimits → List ℕ → (FileFault → Type 0) → FileFault → Type 0
IsInputRefused limits text IsFault f =
    IsOfMachine f ⊎ ((limits.bytes < length text) × (f ≡ file_fault.TooLong))
    ⊎ ((length text ≤ limits.bytes) × IsFault f)

-- reading a text failed by this fault
abbrev pub RefusesText : SizeLimits → List ℕ → (FileFault → Type 0) → Fault → Type 0
RefusesText limits text IsFault fault = (f : FileFault) × (fault ≡ fault_of_file f) × IsInputRefused limits text IsFault f

-- the results of reading a text by its meanings and its faults, of a reader whose text may be known
abbrev pub reading : {A : Type 0} → SizeLimits → (List ℕ → A → Type 0) → (List ℕ → FileFault → Type 0) → Option (List ℕ)
    → Spec A
reading limits IsMeant IsFault known = record {
  gives = λ value. ForSome known (λ text. ReadsWithin limits text (IsMeant text value));
  refuses = λ fault. ForSome known (λ text. RefusesText limits text (IsFault text) fault);
}

-- the results of reading a graph
abbrev pub reading_graph : SizeLimits → Option (List ℕ) → Spec Multigraph
reading_graph limits graph = reading limits (MeansGraph limits) (IsGraphTextFault limits) graph

-- why the inputs are no game: the first fault of the graph, of the chips, or of the game that they make with the limit
abbrev pub RefusesInputs : SizeLimits → List ℕ → List ℕ → ℕ → Fault → Type 0
RefusesInputs limits graph_text chips_text limit fault =
    RefusesText limits graph_text (IsGraphTextFault limits graph_text) fault
    ⊎ ((G : Multigraph) × ReadsWithin limits graph_text (MeansGraph limits graph_text G)
    × RefusesText limits chips_text (λ f. chips_text_fault G.vertices chips_text ≡ Some f) fault)
    ⊎ ((g : ChipGame) × NamesGame limits graph_text chips_text limit g
    × (f : GameFault) × (fault_of_game g ≡ Some f) × (fault ≡ Game f))

-- two readers and a limit gave this game: if their texts are known, it is the one that these mean
pub record GaveGame (limits : SizeLimits) (graph chips : Option (List ℕ)) (limit : ℕ) (g : ChipGame) : Type 0 where
  pub game : IsGame g
  pub means : ForSome graph (λ graph_text. ForSome chips (λ chips_text. MeansGame limits graph_text chips_text limit g))

-- they gave none: if their texts are known, this is why
abbrev pub GaveNoGame : SizeLimits → Option (List ℕ) → Option (List ℕ) → ℕ → Fault → Type 0
GaveNoGame limits graph chips limit fault =
    ForSome graph (λ graph_text. ForSome chips (λ chips_text. RefusesInputs limits graph_text chips_text limit fault))

-- the results of reading the inputs
abbrev pub reading_game : SizeLimits → Option (List ℕ) → Option (List ℕ) → ℕ → Spec ChipGame
reading_game limits graph chips limit =
    record { gives = GaveGame limits graph chips limit; refuses = GaveNoGame limits graph chips limit }
