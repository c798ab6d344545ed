-- Chips dropped one after another on a game that has ended.
use Rattle.std.specs.Prelude.{◌≡◌, ◌⊎◌, ℕ, ◌+◌, ◌<◌, ◌≤◌, List, [], ◌∷◌, ◌++◌, length, map, take, sum, slice_index}
use Rattle.std.specs.Prelude.{Result, Ok, Err}
use Rattle.chip_graph.specs.Limits.{max_total}
use Rattle.chip_graph.specs.Multigraph.{IsGraph}
use Rattle.chip_graph.specs.ChipGame.{ChipGame, IsGame}
use Rattle.chip_graph.specs.More.{AreOfVertices, HasMore, all_brought}
use Rattle.chip_sequence.specs.Counted.{game_from}
use Rattle.chip_sequence.specs.Play.{IsPlayed}
use Rattle.chip_sequence.specs.Sequence.{IsWholePlay, HasEnded}
use Rattle.chip_sequence.specs.declared.outcome.Outcome.{Outcome}
use Rattle.chip_fire.specs.declared.avalanche.Avalanche.{Avalanche}
use Rattle.chip_fire.specs.declared.pile.Pile.{Pile}
use Rattle.chip_fire.specs.Avalanches.{AreAvalanches}
use Rattle.chip_fire.specs.Pile.{IsPile}
use Rattle.chip_sequence.specs.Firing.{IsStable}
use Rattle.chip_library.specs.declared.edges.EdgeLists.{EdgeLists}
use Rattle.chip_library.specs.declared.fault.CallFault.{CallFault}
use Rattle.chip_library.specs.declared.fault.CallFault.TheVariants.{Lengths, Vertex, Total, Stopped, NoMemory}
use Rattle.chip_library.specs.EdgeLists.{HasWholeRows, graph_of}
use Rattle.chip_library.specs.CallFaults.{IsFaultOfGraph, IsFaultOfGame}

-- a drop (a vertex and a number of chips) and its avalanche
abbrev pub Told : Type 0
Told = (ℕ × ℕ) × Avalanche

-- the drops alone
abbrev pub drops_of : List Told → List (ℕ × ℕ)
drops_of told = map (λ (t : Told). t.0) told

-- these are drops on these vertices, of these amounts
pub record AreOn (told : List Told) (at amounts : List ℕ) : Type 0 where
  pub vertices : map (λ (t : Told). t.0.0) told ≡ at
  pub chips : map (λ (t : Told). t.0.1) told ≡ amounts

-- what a call for drops gets and returns: the chips of each vertex, and for each drop the size, the area and the
-- dissipated chips of its avalanche
pub record Columns : Type 0 where
  pub chips : List ℕ
  pub sizes : List ℕ
  pub extents : List ℕ
  pub losts : List ℕ

-- the columns hold the avalanches of these drops
pub record AreTold (told : List Told) (sizes extents losts : List ℕ) : Type 0 where
  pub sizes_are : map (λ (t : Told). t.1.size) told ≡ sizes
  pub extents_are : map (λ (t : Told). t.1.extent) told ≡ extents
  pub losts_are : map (λ (t : Told). t.1.lost) told ≡ losts

-- some play of the game to its end within the limit leaves no vertex legal
abbrev pub ComesToRest : ChipGame → Type 0
ComesToRest g = (vs : List ℕ) × IsWholePlay g.graph (slice_index g.start) g.limit vs × HasEnded g.graph (slice_index g.start) vs

-- some play of the game to its end within the limit leaves a legal vertex: the limit stops it
abbrev pub IsStopped : ChipGame → Type 0
IsStopped g =
    (vs : List ℕ) × IsWholePlay g.graph (slice_index g.start) g.limit vs × (HasEnded g.graph (slice_index g.start) vs → ⊥)

-- the drops were made in order on a game that had ended, each on a vertex. Each play ended within the limit: that of
-- the game with all drops did, in which each vertex fires at least as often. The last one leaves y
pub record AreMade (g : ChipGame) (told : List Told) (y : ℕ → ℕ) : Type 0 where
  pub vertices : AreOfVertices g (drops_of told)
  pub avalanches : (o : Outcome) × IsPlayed g o × AreAvalanches g.graph (slice_index o.chips.items) told y
  pub rest : (all : ChipGame) × HasMore g (drops_of told) all × IsGame all × ComesToRest all

-- the first fault of one more drop, of `count` chips on v: no such vertex, else too many chips, else the limit stops
-- its play
abbrev pub IsFaultOfDrop : ChipGame → List Told → (v count : ℕ) → CallFault → Type 0
IsFaultOfDrop g told v count (Vertex drop) = (drop ≡ length told) × (g.graph.vertices ≤ v)
IsFaultOfDrop g told v count (Total drop) =
    (drop ≡ length told) × (v < g.graph.vertices) × (max_total < sum g.start + all_brought (drops_of told) + count)
IsFaultOfDrop g told v count (Stopped drop) = (drop ≡ length told) × (v < g.graph.vertices)
    × (all : ChipGame) × HasMore g (drops_of told ++ (v, count) ∷ []) all × IsGame all × IsStopped all
IsFaultOfDrop g told v count fault = ⊥

-- all drops before one were made, and that one has this fault
pub record IsFaultAfter (g : ChipGame) (at amounts : List ℕ) (told : List Told) (fault : CallFault) : Type 0 where
  pub is_there : length told < length at
  pub drops : AreOn told (take (length told) at) (take (length told) amounts)
  pub first : IsFaultOfDrop g told (slice_index at (length told)) (slice_index amounts (length told)) fault

-- each of the first n drops is on a vertex of the game, and their chips and the game's are not too many
pub record CanFall (g : ChipGame) (at amounts : List ℕ) (n : ℕ) : Type 0 where
  pub vertices : (i : ℕ) → i < n → slice_index at i < g.graph.vertices
  pub chips : sum g.start + sum (take n amounts) ≤ max_total

-- the first of these drops that cannot fall has this fault: no such vertex, else too many chips
abbrev pub IsFaultOfColumns : ChipGame → (at amounts : List ℕ) → CallFault → Type 0
IsFaultOfColumns g at amounts (Vertex i) =
    (i < length at) × CanFall g at amounts i × (g.graph.vertices ≤ slice_index at i)
IsFaultOfColumns g at amounts (Total i) = (i < length at) × CanFall g at amounts i
    × (slice_index at i < g.graph.vertices) × (max_total < sum g.start + sum (take i amounts) + slice_index amounts i)
IsFaultOfColumns g at amounts fault = ⊥

-- the first fault of drops on a game: the limit stops its play, else that of the first faulty drop; or memory ran out
abbrev pub IsFaultOfDrops : ChipGame → (at amounts : List ℕ) → CallFault → Type 0
IsFaultOfDrops g at amounts fault =
    (fault ≡ NoMemory) ⊎ ((fault ≡ Stopped 0) × IsStopped g)
    ⊎ ((told : List Told) × (y : ℕ → ℕ) × AreMade g told y × IsFaultAfter g at amounts told fault)

-- the columns have one number per drop
pub record AreRows (at amounts sizes extents losts : List ℕ) : Type 0 where
  pub amounts_each : length amounts ≡ length at
  pub sizes_each : length sizes ≡ length at
  pub extents_each : length extents ≡ length at
  pub losts_each : length losts ≡ length at

-- the slices have matching lengths
pub record AreDrops (lists : EdgeLists) (at amounts sizes extents losts : List ℕ) : Type 0 where
  pub edges : HasWholeRows lists
  pub rows : AreRows at amounts sizes extents losts

-- the game on which chips are dropped
abbrev pub game_of : EdgeLists → ℕ → Columns → ChipGame
game_of lists limit columns = game_from (graph_of lists) columns.chips limit

-- the first fault of a call: of the lengths, else of the graph, else of the game, else of the drops
abbrev pub IsDropsFault : EdgeLists → ℕ → (at amounts : List ℕ) → Columns → CallFault → Type 0
IsDropsFault lists limit at amounts columns fault =
    let aligned : Type 0 = AreDrops lists at amounts columns.sizes columns.extents columns.losts in
    let g : ChipGame = game_of lists limit columns in
    ((fault ≡ Lengths) × (aligned → ⊥))
    ⊎ (aligned × IsFaultOfGraph (graph_of lists) fault)
    ⊎ (aligned × IsGraph (graph_of lists) × IsFaultOfGame g 0 fault)
    ⊎ (aligned × IsGame g × IsFaultOfDrops g at amounts fault)

-- what a call for drops returns: they are made, and the columns hold their avalanches and the chips they leave; or the
-- first fault, and the slices are unchanged
abbrev pub Avalanches : EdgeLists → ℕ → (at amounts : List ℕ) → (old new : Columns) → Result (Unit {0}) CallFault → Type 0
Avalanches lists limit at amounts old new (Ok done) = AreDrops lists at amounts old.sizes old.extents old.losts
    × IsGame (game_of lists limit old) × (length new.chips ≡ length old.chips) × (told : List Told) × AreOn told at amounts
    × AreTold told new.sizes new.extents new.losts × AreMade (game_of lists limit old) told (slice_index new.chips)
Avalanches lists limit at amounts old new (Err fault) = (new ≡ old) × IsDropsFault lists limit at amounts old fault

-- these drops were made in order on the pile p, each until no vertex was legal, and left p'
pub record Leaves (p : Pile) (told : List Told) (p' : Pile) : Type 0 where
  pub pile : IsPile p'
  pub stable : IsStable p'.game.graph (slice_index p'.chips.items)
  pub game : HasMore p.game (drops_of told) p'.game
  pub vertices : AreOfVertices p.game (drops_of told)
  pub avalanches : AreAvalanches p.game.graph (slice_index p.chips.items) told (slice_index p'.chips.items)

-- the game has ended within the limit with this pile, which may get `room` more chips
pub record BeginsPile (g : ChipGame) (p : Pile) (room : ℕ) : Type 0 where
  pub is_game : IsGame g
  pub same_game : p.game ≡ g
  pub pile : IsPile p
  pub stable : IsStable g.graph (slice_index p.chips.items)
  pub played : (o : Outcome) × IsPlayed g o × (p.chips.items ≡ o.chips.items)
  pub full : room + sum g.start ≡ max_total

-- why a game becomes no pile: its first fault, or the limit stops its play, or memory ran out
abbrev pub IsNoPile : ChipGame → CallFault → Type 0
IsNoPile g fault =
    IsFaultOfGame g 0 fault ⊎ (IsGame g × (fault ≡ NoMemory)) ⊎ (IsGame g × (fault ≡ Stopped 0) × IsStopped g)
