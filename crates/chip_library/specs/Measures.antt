-- What is measured of drops on a kept pile, and what is written of it.
use Rattle.std.specs.Prelude.{◌≡◌, ◌⊎◌, ℕ, ◌+◌, ◌<◌, Bool, true, not, ◌&&◌, ◌==◌, bit_and, IsTrue}
use Rattle.std.specs.Prelude.{List, [], ◌∷◌, ◌++◌, length, map, take, drop, slice_index}
use Rattle.std.specs.Prelude.{Option, Some, None, Result, Ok, Err}
use Rattle.std.specs.List.{flat_map, list_any}
use Rattle.chip_graph.specs.Multigraph.{Multigraph}
use Rattle.chip_fire.specs.declared.avalanche.Measured.{Measured}
use Rattle.chip_fire.specs.declared.pile.Pile.{Pile}
use Rattle.chip_fire.specs.Avalanches.{dropped, IsAvalanche}
use Rattle.chip_fire.specs.Measured.{HasRow, IsDuration, row_vertices, row_times}
use Rattle.chip_library.specs.declared.fault.CallFault.{CallFault}
use Rattle.chip_library.specs.declared.fault.CallFault.TheVariants.{Lengths, Stopped}
use Rattle.chip_library.specs.declared.kept.PileState.TheVariants.{Stable}
use Rattle.chip_library.specs.Drops.{Told, AreOn, AreRows, CanFall, IsFaultOfColumns, Leaves}
use Rattle.chip_library.specs.KeptGames.{KeptGame, Plays, DropsOnStable, Rows, with_rows}

-- a drop with its avalanche, the vertices that fire and how often each, and the number of rounds
pub record Noted : Type 0 where
  pub told : Told
  pub vertices : List ℕ
  pub times : List ℕ
  pub rounds : ℕ

-- the drops with their avalanches
abbrev pub told_of : List Noted → List Told
told_of notes = map (λ (n : Noted). n.told) notes

-- the drop on x has this avalanche, which leaves y, and this row and, if it is timed, this duration
pub record IsNoted (G : Multigraph) (timed : Bool) (x : ℕ → ℕ) (n : Noted) (y : ℕ → ℕ) : Type 0 where
  pub avalanche : IsAvalanche G (dropped x n.told.0.0 n.told.0.1) n.told.1 y
  pub row : HasRow G (dropped x n.told.0.0 n.told.0.1) n.vertices n.times
  pub duration : timed ≡ true → IsDuration G (dropped x n.told.0.0 n.told.0.1) n.rounds

-- the first of these drops falls on x, each other one on what the one before it left, and the last leaves y
abbrev pub AreNoted : Multigraph → Bool → (ℕ → ℕ) → List Noted → (ℕ → ℕ) → Type 0
AreNoted G timed x [] y = (v : ℕ) → y v ≡ x v
AreNoted G timed x (n ∷ more) y = (z : ℕ → ℕ) × IsNoted G timed x n z × AreNoted G timed z more y

-- these drops were made in order on the pile p, each until no vertex was legal, and left p'
pub record LeavesNoted (p : Pile) (timed : Bool) (notes : List Noted) (p' : Pile) : Type 0 where
  pub leaves : Leaves p (told_of notes) p'
  pub noted : AreNoted p.game.graph timed (slice_index p.chips.items) notes (slice_index p'.chips.items)

-- the last drop on the pile p, of `count` chips on v, as measured
abbrev pub noted_on : Pile → (v count : ℕ) → Measured → Noted
noted_on p v count m = record {
  told = ((v, count), m.avalanche);
  vertices = row_vertices p;
  times = row_times p;
  rounds = m.duration;
}

-- what a drop on a stable pile returns: what is measured, after which no vertex is legal; or the limit stops its play
abbrev pub MeasuresOnStable : (old new : KeptGame) → (v count : ℕ) → Bool → Option Measured → Type 0
MeasuresOnStable old new v count timed (Some m) =
    (new.state ≡ Stable) × LeavesNoted old.pile timed (noted_on new.pile v count m ∷ []) new.pile
MeasuresOnStable old new v count timed None = DropsOnStable old new v count None

-- these drops were made on the pile that was played out, each until no vertex was legal
abbrev pub AreMeasured : (old new : KeptGame) → Bool → List Noted → Type 0
AreMeasured old new timed notes =
    (played : KeptGame) × Plays old played (Ok tt) × (new.state ≡ Stable) × LeavesNoted played.pile timed notes new.pile

-- what is written of drops: besides the rows their durations, and, drop after drop, the vertices that fired, how often
-- each did, and where those of the drop end
pub record Measures : Type 0 where
  pub rows : Rows
  pub durations : List ℕ
  pub ends : List ℕ
  pub vertices : List ℕ
  pub times : List ℕ

-- the same, by the slices of a call
abbrev pub measures_of : (sizes extents losts durations ends vertices times : List ℕ) → Measures
measures_of sizes extents losts durations ends vertices times = record {
  rows = record { sizes = sizes; extents = extents; losts = losts };
  durations = durations;
  ends = ends;
  vertices = vertices;
  times = times;
}

-- whether durations are asked for
abbrev pub is_timed : Measures → Bool
is_timed m = not (length m.durations == 0)

-- the columns have one number per drop; there may be no durations, and nothing of what fired
pub record AreMeasures (at amounts : List ℕ) (m : Measures) : Type 0 where
  pub rows : AreRows at amounts m.rows.sizes m.rows.extents m.rows.losts
  pub durations_each : (length m.durations ≡ 0) ⊎ (length m.durations ≡ length at)
  pub ends_each : (length m.ends ≡ length at) ⊎ ((length m.ends ≡ 0) × (length m.vertices ≡ 0))
  pub times_each : length m.times ≡ length m.vertices

-- also, there is one mark per vertex, or none
abbrev pub AreAsked : Multigraph → (at amounts marks : List ℕ) → Measures → Type 0
AreAsked G at amounts marks m = AreMeasures at amounts m × ((length marks ≡ 0) ⊎ (length marks ≡ G.vertices))

-- the vertices that fired, drop after drop
abbrev pub fired_in : List Noted → List ℕ
fired_in notes = flat_map (λ (n : Noted). n.vertices) notes

-- how often they fired
abbrev pub times_in : List Noted → List ℕ
times_in notes = flat_map (λ (n : Noted). n.times) notes

-- where those of each drop end, if those of the first begin at `start`
abbrev pub ends_from : ℕ → List Noted → List ℕ
ends_from start [] = []
ends_from start (n ∷ more) = (start + length n.vertices) ∷ ends_from (start + length n.vertices) more

-- the first numbers of a column are these, and the others are unchanged; an empty column stays empty
abbrev pub at_front : List ℕ → List ℕ → List ℕ
at_front numbers [] = []
at_front numbers (x ∷ xs) = numbers ++ drop (length numbers) (x ∷ xs)

-- what is asked for of these drops is written, and the rest is unchanged
abbrev pub with_notes : List Noted → Measures → Measures
with_notes notes m = record {
  rows = with_rows (told_of notes) m.rows;
  durations = at_front (map (λ (n : Noted). n.rounds) notes) m.durations;
  ends = at_front (ends_from 0 notes) m.ends;
  vertices = at_front (fired_in notes) m.vertices;
  times = at_front (times_in notes) m.times;
}

-- what fires is asked for, and after these drops there is no room for all vertices of G once more
abbrev pub IsFull : Multigraph → Measures → List Noted → Type 0
IsFull G m notes = (0 < length m.ends) × (length m.vertices < length (fired_in notes) + G.vertices)

-- whether one of these vertices has this bit in its mark
abbrev pub fires_marked : (marks : List ℕ) → (bit : ℕ) → (vertices : List ℕ) → Bool
fires_marked marks bit vertices = list_any (λ v. not (bit_and (slice_index marks v) bit == 0)) vertices

-- whether one has the first bit, and one the other
abbrev pub fires_both : (marks : List ℕ) → (bit other : ℕ) → (vertices : List ℕ) → Bool
fires_both marks bit other vertices = fires_marked marks bit vertices && fires_marked marks other vertices

-- a drop ends the run: it loses a chip, if `loses`; or fires a vertex with bit 1, or some with 2 and 4, or 8 and 16
abbrev pub EndsRun : (loses : Bool) → (marks : List ℕ) → Noted → Type 0
EndsRun loses marks n = (IsTrue loses × (0 < n.told.1.lost)) ⊎ IsTrue (fires_marked marks 1 n.vertices)
    ⊎ IsTrue (fires_both marks 2 4 n.vertices) ⊎ IsTrue (fires_both marks 8 16 n.vertices)

-- the last of these drops ends the run
abbrev pub LastEnds : (Noted → Type 0) → List Noted → Type 0
LastEnds Ends [] = ⊥
LastEnds Ends (n ∷ []) = Ends n
LastEnds Ends (n ∷ m ∷ more) = LastEnds Ends (m ∷ more)

-- no drop is made after these: there is no room for the next one, or the last one ends the run
abbrev pub RunHasEnded : Multigraph → Measures → (Noted → Type 0) → List Noted → Type 0
RunHasEnded G m Ends notes = IsFull G m notes ⊎ LastEnds Ends notes

-- the first drops were made, none after one that ends the run, each with room, and what is asked for of them is written
pub record AreWritten (old new : KeptGame) (at amounts : List ℕ) (Ends : Noted → Type 0) (before after : Measures)
    (notes : List Noted) : Type 0 where
  pub on : AreOn (told_of notes) (take (length notes) at) (take (length notes) amounts)
  pub measured : AreMeasured old new (is_timed before) notes
  pub written : after ≡ with_notes notes before
  pub going : (i : ℕ) → i < length notes → RunHasEnded old.pile.game.graph before Ends (take i notes) → ⊥

-- this number of drops was made: all, or there is no room before the next one, or the last one ends the run
abbrev pub MakesSome : (old new : KeptGame) → (at amounts : List ℕ) → (Noted → Type 0) → (before after : Measures) → ℕ
    → Type 0
MakesSome old new at amounts Ends before after made =
    (notes : List Noted) × AreWritten old new at amounts Ends before after notes × (length notes ≡ made)
    × ((made ≡ length at) ⊎ ((made < length at) × RunHasEnded old.pile.game.graph before Ends notes))

-- the limit stopped the play of drop i, which was to be made; the drops before it were made
abbrev pub StopsMeasure : (old new : KeptGame) → (at amounts : List ℕ) → (Noted → Type 0) → (before after : Measures)
    → ℕ → Type 0
StopsMeasure old new at amounts Ends before after i =
    (notes : List Noted) × (k : KeptGame) × AreWritten old k at amounts Ends before after notes × (length notes ≡ i)
    × (i < length at) × (RunHasEnded old.pile.game.graph before Ends notes → ⊥)
    × DropsOnStable k new (slice_index at i) (slice_index amounts i) None

-- what drops that can fall return on a stable pile: the number made; or the limit stops one
abbrev pub MeasuresSome : (old new : KeptGame) → (at amounts : List ℕ) → (Noted → Type 0) → (before after : Measures)
    → Result ℕ CallFault → Type 0
MeasuresSome old new at amounts Ends before after (Ok made) = MakesSome old new at amounts Ends before after made
MeasuresSome old new at amounts Ends before after (Err fault) =
    (i : ℕ) × (fault ≡ Stopped i) × StopsMeasure old new at amounts Ends before after i

-- what measuring many drops on a pile returns: the number made, all, those before one without room, or those up to one
-- that ends the run; or the first fault: of the lengths, else of the first drop that cannot fall, and nothing changes;
-- else the limit stops the play before the drops, and nothing is dropped, or the play of one of them
abbrev pub MeasuresEach : (old new : KeptGame) → (at amounts : List ℕ) → (loses : Bool) → (marks : List ℕ)
    → (before after : Measures) → Result ℕ CallFault → Type 0
MeasuresEach old new at amounts loses marks before after (Ok made) =
    AreAsked old.pile.game.graph at amounts marks before × CanFall old.pile.game at amounts (length at)
    × MakesSome old new at amounts (EndsRun loses marks) before after made
MeasuresEach old new at amounts loses marks before after (Err Lengths) =
    (new ≡ old) × (after ≡ before) × (AreAsked old.pile.game.graph at amounts marks before → ⊥)
MeasuresEach old new at amounts loses marks before after (Err (Stopped i)) =
    AreAsked old.pile.game.graph at amounts marks before × CanFall old.pile.game at amounts (length at)
    × (((i ≡ 0) × (after ≡ before) × Plays old new (Err (Stopped 0)))
    ⊎ StopsMeasure old new at amounts (EndsRun loses marks) before after i)
MeasuresEach old new at amounts loses marks before after (Err fault) = (new ≡ old) × (after ≡ before)
    × AreAsked old.pile.game.graph at amounts marks before × IsFaultOfColumns old.pile.game at amounts fault
