-- Piles kept between calls, and what calls on them return.
use Rattle.std.specs.Prelude.{◌≡◌, ◌⊎◌, ℕ, ◌+◌, ◌-◌, ◌*◌, ◌^◌, ◌<◌, Bool, true, false, List, [], ◌∷◌, ◌++◌, length, map, take, drop, slice_index}
use Rattle.std.specs.Prelude.{Option, Some, None, Result, Ok, Err}
use Rattle.chip_graph.specs.Multigraph.{Multigraph, IsGraph}
use Rattle.chip_graph.specs.ChipGame.{ChipGame, IsGame}
use Rattle.chip_graph.specs.More.{HasMore}
use Rattle.chip_sequence.specs.Counted.{game_from}
use Rattle.chip_sequence.specs.Play.{IsPlayed}
use Rattle.chip_sequence.specs.declared.outcome.Outcome.{Outcome}
use Rattle.chip_fire.specs.declared.avalanche.Avalanche.{Avalanche}
use Rattle.chip_fire.specs.declared.pile.Pile.{Pile}
use Rattle.chip_fire.specs.Pile.{IsPile}
use Rattle.chip_fire.specs.Rounds.{OnlyRise, firings_left}
use Rattle.chip_sequence.specs.Firing.{IsStable}
use Rattle.chip_fire.specs.BegunPile.{IsBegunPile, IsAtStart}
use Rattle.chip_library.specs.declared.edges.EdgeLists.{EdgeLists}
use Rattle.chip_library.specs.declared.fault.CallFault.{CallFault}
use Rattle.chip_library.specs.declared.fault.CallFault.TheVariants.{Lengths, Stopped}
use Rattle.chip_library.specs.declared.kept.PileState.{PileState}
use Rattle.chip_library.specs.declared.kept.PileState.TheVariants.{ToPlay, Stable, Halted}
use Rattle.chip_library.specs.EdgeLists.{HasWholeRows, graph_of}
use Rattle.chip_library.specs.CallFaults.{IsFaultOfGraph, IsFaultOfGame}
use Rattle.chip_library.specs.Drops.{Told, AreOn, AreTold, AreRows, AreMade, CanFall, IsFaultOfColumns, Leaves}

-- a kept pile and the state of its play
pub record KeptGame : Type 0 where
  pub pile : Pile
  pub state : PileState

-- the pile is some state of its game's play; if the play has ended, no vertex is legal, or the limit has stopped it
pub record IsKept (p : Pile) (state : PileState) : Type 0 where
  pub begun : IsBegunPile p
  pub stable : state ≡ Stable → IsPile p × IsStable p.game.graph (slice_index p.chips.items)
  pub halted : state ≡ Halted → IsPile p × (IsStable p.game.graph (slice_index p.chips.items) → ⊥)

-- the game begins with this pile, and is not played yet
pub record BeginsGame (g : ChipGame) (k : KeptGame) : Type 0 where
  pub is_game : IsGame g
  pub start : IsAtStart g k.pile
  pub to_play : k.state ≡ ToPlay

-- what making a pile returns: a pile at the game's start; or the first fault: of lengths, else graph, else game
abbrev pub MakesPile : EdgeLists → ℕ → List ℕ → Result KeptGame CallFault → Type 0
MakesPile lists limit chips (Ok k) = HasWholeRows lists × BeginsGame (game_from (graph_of lists) chips limit) k
MakesPile lists limit chips (Err fault) = ((fault ≡ Lengths) × (HasWholeRows lists → ⊥))
    ⊎ (HasWholeRows lists × IsFaultOfGraph (graph_of lists) fault)
    ⊎ (HasWholeRows lists × IsGraph (graph_of lists) × IsFaultOfGame (game_from (graph_of lists) chips limit) 0 fault)

-- what putting other chips on a pile returns: another game on its graph begins; or its first fault, and nothing changes
abbrev pub PutsChips : (old new : KeptGame) → ℕ → List ℕ → Result (Unit {0}) CallFault → Type 0
PutsChips old new limit chips (Ok done) = BeginsGame (game_from old.pile.game.graph chips limit) new
PutsChips old new limit chips (Err fault) =
    (new ≡ old) × IsFaultOfGame (game_from old.pile.game.graph chips limit) 0 fault

-- the game of a pile has been played to its end within the limit; a pile played before is unchanged
pub record IsPlayedOut (old new : KeptGame) : Type 0 where
  pub kept : IsKept new.pile new.state
  pub same_game : new.pile.game ≡ old.pile.game
  pub same : (old.state ≡ ToPlay → ⊥) → new ≡ old

-- what a play returns: no vertex is legal at the end of the game; or the limit has stopped it
abbrev pub Plays : (old new : KeptGame) → Result (Unit {0}) CallFault → Type 0
Plays old new (Ok done) = IsPlayedOut old new × (new.state ≡ Stable)
Plays old new (Err fault) = IsPlayedOut old new × (new.state ≡ Halted) × (fault ≡ Stopped 0)

-- the play of a pile has gone on by some visits and has not ended: no firing is taken back, and some vertex has fired.
-- No visits change nothing, and 2^64 - 1 end it
pub record GoesOn (old new : KeptGame) (visits : ℕ) : Type 0 where
  pub was_to_play : old.state ≡ ToPlay
  pub to_play : new.state ≡ ToPlay
  pub same_game : new.pile.game ≡ old.pile.game
  pub rises : OnlyRise old.pile.fired.items new.pile.fired.items
  pub some_fired : 0 < visits → firings_left old.pile.game.graph old.pile.game.limit new.pile.fired.items
      < firings_left old.pile.game.graph old.pile.game.limit old.pile.fired.items
  pub none : visits ≡ 0 → new ≡ old
  pub not_whole : visits ≡ 2 ^ 64 - 1 → ⊥

-- what a play of this many visits returns: whether it still has to end; or what a whole play returns
abbrev pub PlaysSome : (old new : KeptGame) → ℕ → Result Bool CallFault → Type 0
PlaysSome old new visits (Ok true) = GoesOn old new visits
PlaysSome old new visits (Ok false) = Plays old new (Ok tt)
PlaysSome old new visits (Err fault) = Plays old new (Err fault)

-- the limit stopped the play before a drop, and nothing was dropped; or it stopped the play of the drop
abbrev pub StopsDrop : (old new : KeptGame) → (v count : ℕ) → Type 0
StopsDrop old new v count = Plays old new (Err (Stopped 0))
    ⊎ ((played : KeptGame) × Plays old played (Ok tt) × (new.state ≡ Halted)
    × HasMore played.pile.game ((v, count) ∷ []) new.pile.game)

-- these drops were made on the pile that was played out, each until no vertex was legal, with these avalanches
abbrev pub AreDropped : (old new : KeptGame) → List Told → Type 0
AreDropped old new told =
    (played : KeptGame) × Plays old played (Ok tt) × (new.state ≡ Stable) × Leaves played.pile told new.pile

-- what one drop on a pile returns: its avalanche on the pile that was played out, after which no vertex is legal; or
-- its first fault. Nothing changes unless the limit stops a play
abbrev pub Drops : (old new : KeptGame) → (v count : ℕ) → Result Avalanche CallFault → Type 0
Drops old new v count (Ok a) = AreDropped old new (((v, count), a) ∷ [])
Drops old new v count (Err (Stopped drop)) = (drop ≡ 0) × (v < old.pile.game.graph.vertices) × StopsDrop old new v count
Drops old new v count (Err fault) = (new ≡ old) × IsFaultOfColumns old.pile.game (v ∷ []) (count ∷ []) fault

-- what a drop on a stable pile returns: its avalanche, after which no vertex is legal; or the limit stops its play
abbrev pub DropsOnStable : (old new : KeptGame) → (v count : ℕ) → Option Avalanche → Type 0
DropsOnStable old new v count (Some a) = (new.state ≡ Stable) × Leaves old.pile (((v, count), a) ∷ []) new.pile
DropsOnStable old new v count None = (new.state ≡ Halted) × HasMore old.pile.game ((v, count) ∷ []) new.pile.game

-- what is written of drops: the size, the area and the dissipated chips of each avalanche
pub record Rows : Type 0 where
  pub sizes : List ℕ
  pub extents : List ℕ
  pub losts : List ℕ

-- the first numbers of a column are those of these drops, and the others are unchanged
abbrev pub with_first : (Told → ℕ) → List Told → List ℕ → List ℕ
with_first number told column = map number told ++ drop (length told) column

-- the first rows are those of these drops, and the others are unchanged
abbrev pub with_rows : List Told → Rows → Rows
with_rows told rows = record {
  sizes = with_first (λ t. t.1.size) told rows.sizes;
  extents = with_first (λ t. t.1.extent) told rows.extents;
  losts = with_first (λ t. t.1.lost) told rows.losts;
}

-- the limit stopped the play of drop i on a pile; the drops before it were made, and their rows are written
abbrev pub StopsAt : (old new : KeptGame) → (at amounts : List ℕ) → (before after : Rows) → ℕ → Type 0
StopsAt old new at amounts before after i =
    (told : List Told) × (k : KeptGame) × AreDropped old k told × (length told ≡ i) × (i < length at)
    × AreOn told (take i at) (take i amounts) × (after ≡ with_rows told before)
    × DropsOnStable k new (slice_index at i) (slice_index amounts i) None

-- the limit stopped the play before the drops, and nothing was dropped; or it stopped the play of one of them
abbrev pub StopsDrops : (old new : KeptGame) → (at amounts : List ℕ) → (before after : Rows) → ℕ → Type 0
StopsDrops old new at amounts before after i =
    ((i ≡ 0) × (after ≡ before) × Plays old new (Err (Stopped 0))) ⊎ StopsAt old new at amounts before after i

-- what many drops on a pile return: they are made in order, and the rows hold their avalanches; or the first fault: of
-- the lengths, else of the first drop that cannot fall, and nothing changes; else the limit stops a play
abbrev pub DropsEach : (old new : KeptGame) → (at amounts : List ℕ) → (before after : Rows)
    → Result (Unit {0}) CallFault → Type 0
DropsEach old new at amounts before after (Ok done) = AreRows at amounts before.sizes before.extents before.losts
    × (told : List Told) × AreOn told at amounts × AreTold told after.sizes after.extents after.losts
    × AreDropped old new told
DropsEach old new at amounts before after (Err Lengths) =
    (new ≡ old) × (after ≡ before) × (AreRows at amounts before.sizes before.extents before.losts → ⊥)
DropsEach old new at amounts before after (Err (Stopped i)) =
    AreRows at amounts before.sizes before.extents before.losts × CanFall old.pile.game at amounts (length at)
    × StopsDrops old new at amounts before after i
DropsEach old new at amounts before after (Err fault) = (new ≡ old) × (after ≡ before)
    × AreRows at amounts before.sizes before.extents before.losts × IsFaultOfColumns old.pile.game at amounts fault

-- the number of bytes in the arrays of a pile on a graph
abbrev pub bytes_on : Multigraph → ℕ
bytes_on G = 76 * G.vertices + 48 * length G.edges

-- where the play of a pile has ended, the pile is the outcome of its game
abbrev pub PilesAreOutcomes : Type 0
PilesAreOutcomes =
    (p : Pile) → IsPile p → (o : Outcome) × IsPlayed p.game o × (p.chips.items ≡ o.chips.items) × (p.fired.items ≡ o.fired.items)

-- drops made by successive calls on a pile are made on the game put there, as by one call
abbrev pub DropsFollow : Type 0
DropsFollow =
    (g : ChipGame) (k played : KeptGame) → BeginsGame g k → Plays k played (Ok tt)
    → (told : List Told) (p : Pile) → Leaves played.pile told p → AreMade g told (slice_index p.chips.items)

-- drops on the pile that earlier drops left continue these: successive calls make the drops of one call
abbrev pub MoreDrops : Type 0
MoreDrops =
    (p : Pile) (told : List Told) (p' : Pile) → Leaves p told p' → (more : List Told) (p'' : Pile) → Leaves p' more p''
    → Leaves p (told ++ more) p''
