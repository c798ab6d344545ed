-- Many games on one graph, the numbers of one after those of another.
use Rattle.std.specs.Prelude.{◌≡◌, ◌⊎◌, ℕ, ◌*◌, ◌<◌, List, [], length, slice_index, Result, Ok, Err}
use Rattle.chip_graph.specs.Multigraph.{Multigraph, IsGraph}
use Rattle.chip_graph.specs.ChipGame.{ChipGame, IsGame}
use Rattle.chip_sequence.specs.Counted.{game_from}
use Rattle.chip_sequence.specs.Play.{IsPlayed}
use Rattle.chip_sequence.specs.declared.outcome.Outcome.{Outcome}
pub use Rattle.chip_recurrent.specs.Rows.{row}
use Rattle.chip_library.specs.declared.edges.EdgeLists.{EdgeLists}
use Rattle.chip_library.specs.declared.fault.CallFault.{CallFault}
use Rattle.chip_library.specs.declared.fault.CallFault.TheVariants.{Lengths, NoMemory}
use Rattle.chip_library.specs.EdgeLists.{HasWholeRows, graph_of}
use Rattle.chip_library.specs.CallFaults.{IsFaultOfGraph, IsFaultOfGame}

-- game i, which begins with row i of these chips
abbrev pub game_at : Multigraph → ℕ → List ℕ → ℕ → ChipGame
game_at G limit chips i = game_from G (row G.vertices chips i) limit

-- what a call gets and returns: the chips and counts of each vertex of each game, and for each game how many vertices
-- the limit stopped
pub record Games : Type 0 where
  pub chips : List ℕ
  pub fired : List ℕ
  pub stopped : List ℕ

-- the slices have matching lengths; there may be no guesses
pub record IsBatch (lists : EdgeLists) (guesses : List ℕ) (games : Games) : Type 0 where
  pub edges : HasWholeRows lists
  pub chips_each : length games.chips ≡ length games.stopped * lists.vertices
  pub fired_each : length games.fired ≡ length games.chips
  pub guesses_each : (guesses ≡ []) ⊎ (length guesses ≡ length games.chips)

-- game i, which begins with these chips, has the outcome in its rows
pub record IsPlayedAt (G : Multigraph) (limit : ℕ) (chips : List ℕ) (ends : Games) (i : ℕ) : Type 0 where
  pub is_game : IsGame (game_at G limit chips i)
  pub outcome : (o : Outcome) × IsPlayed (game_at G limit chips i) o
      × (row G.vertices ends.chips i ≡ o.chips.items) × (row G.vertices ends.fired i ≡ o.fired.items)
      × (slice_index ends.stopped i ≡ length o.over.items)

-- the first n games, which begin with these chips, have the outcomes in the rows
pub record ArePlayed (G : Multigraph) (limit : ℕ) (chips : List ℕ) (n : ℕ) (ends : Games) : Type 0 where
  pub chips_each : length ends.chips ≡ n * G.vertices
  pub fired_each : length ends.fired ≡ n * G.vertices
  pub stopped_each : length ends.stopped ≡ n
  pub each : (i : ℕ) → i < n → IsPlayedAt G limit chips ends i

-- the first invalid game of n that begin with these chips has this first fault; or memory ran out
abbrev pub IsFaultOfGames : Multigraph → ℕ → List ℕ → ℕ → CallFault → Type 0
IsFaultOfGames G limit chips n fault = (fault ≡ NoMemory)
    ⊎ ((i : ℕ) × (i < n) × ((j : ℕ) → j < i → IsGame (game_at G limit chips j))
    × IsFaultOfGame (game_at G limit chips i) i fault)

-- the first fault of a call: of the lengths, else of the graph, else of the games
abbrev pub IsBatchFault : EdgeLists → ℕ → List ℕ → Games → CallFault → Type 0
IsBatchFault lists limit guesses games fault =
    ((fault ≡ Lengths) × (IsBatch lists guesses games → ⊥))
    ⊎ (IsBatch lists guesses games × IsFaultOfGraph (graph_of lists) fault)
    ⊎ (IsBatch lists guesses games × IsGraph (graph_of lists)
    × IsFaultOfGames (graph_of lists) limit games.chips (length games.stopped) fault)

-- what a call for many games returns: each is a game, and its outcome is in its rows; or the first fault, and the
-- slices are unchanged. Nothing depends on the guesses
abbrev pub StabilizesAll : EdgeLists → ℕ → List ℕ → (old new : Games) → Result (Unit {0}) CallFault → Type 0
StabilizesAll lists limit guesses old new (Ok done) =
    IsBatch lists guesses old × IsGraph (graph_of lists)
    × ArePlayed (graph_of lists) limit old.chips (length old.stopped) new
StabilizesAll lists limit guesses old new (Err fault) = (new ≡ old) × IsBatchFault lists limit guesses old fault
