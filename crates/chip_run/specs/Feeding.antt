-- The chips that are fed to a game while threads play it. If nothing is fed there are neither a text of feeds nor
-- feeds.
use Rattle.std.specs.Prelude.{◌≡◌, ◌⊎◌, ℕ, Bool, nat_lt, ⊤, List, filter, Option, Some, None}
use Rattle.std.specs.List.{enumerate_from}
use Rattle.std.specs.Option.{ForSome}
use Rattle.chip_graph.specs.Limits.{SizeLimits}
use Rattle.chip_graph.specs.ChipGame.{ChipGame}
use Rattle.chip_file.specs.ChipsText.{chips_of_text, chips_text_fault}
use Rattle.chip_command.specs.Inputs.{ReadsWithin, MeansGame, RefusesInputs, RefusesText}
use Rattle.chip_command.specs.declared.fault.Fault.{Fault}

-- whether a vertex, with its number of chips, has any
abbrev pub has_chips : ℕ × ℕ → Bool
has_chips feed = nat_lt 0 feed.1

-- the vertices that have chips, ascending, each with its number of chips
abbrev pub feeds_of : List ℕ → List (ℕ × ℕ)
feeds_of chips = filter has_chips (enumerate_from 0 chips)

-- a text has these feeds for `vertices` vertices
abbrev pub MeansFeeds : SizeLimits → List ℕ → ℕ → List (ℕ × ℕ) → Type 0
MeansFeeds limits text vertices feeds =
    (chips : List ℕ) × ReadsWithin limits text (chips_of_text vertices text ≡ Some chips) × (feeds ≡ feeds_of chips)

-- why it has none
abbrev pub RefusesFeeds : SizeLimits → List ℕ → ℕ → Fault → Type 0
RefusesFeeds limits text vertices fault = RefusesText limits text (λ f. chips_text_fault vertices text ≡ Some f) fault

-- what is fed by a text, if there is one
abbrev pub MeansFed : SizeLimits → Option (List ℕ) → ℕ → Option (List (ℕ × ℕ)) → Type 0
MeansFed limits None vertices None = ⊤
MeansFed limits None vertices (Some feeds) = ⊥
MeansFed limits (Some text) vertices None = ⊥
MeansFed limits (Some text) vertices (Some feeds) = MeansFeeds limits text vertices feeds

-- the fault of the text of feeds, if there is one
abbrev pub RefusesFed : SizeLimits → Option (List ℕ) → ℕ → Fault → Type 0
RefusesFed limits None vertices fault = ⊥
RefusesFed limits (Some text) vertices fault = RefusesFeeds limits text vertices fault

-- the texts and a limit mean this game and these feeds for it
pub record MeansFedGame (limits : SizeLimits) (graph_text chips_text : List ℕ) (feed_text : Option (List ℕ)) (limit : ℕ)
    (g : ChipGame) (feeds : Option (List (ℕ × ℕ))) : Type 0 where
  pub game : MeansGame limits graph_text chips_text limit g
  pub fed : MeansFed limits feed_text g.graph.vertices feeds

-- why they mean none: the inputs make no game, or the text of feeds has a fault
abbrev pub RefusesFedGame : SizeLimits → List ℕ → List ℕ → Option (List ℕ) → ℕ → Fault → Type 0
RefusesFedGame limits graph_text chips_text feed_text limit fault =
    RefusesInputs limits graph_text chips_text limit fault
    ⊎ ((g : ChipGame) × MeansGame limits graph_text chips_text limit g × RefusesFed limits feed_text g.graph.vertices fault)

-- a fact of the text that a reader has left, if it is known; of no text if there is no reader
abbrev pub ForText : Option (Option (List ℕ)) → (Option (List ℕ) → Type 0) → Type 0
ForText None P = P None
ForText (Some left) P = ForSome left (λ text. P (Some text))
