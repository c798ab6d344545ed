-- Serves Measures.antt.
-- Drops measured one after another, and what is written of them.
use Rattle.std.proofs.Common.{◌≡◌, ◌⊎◌, ⊎_elim, ℕ, ◌+◌, ◌<◌, ◌≤◌, Bool, true, false, List, [], ◌∷◌, ◌++◌}
use Rattle.std.proofs.Common.{length, map, take, drop, set, slice_index, Some, Result, Ok, Err, MatchBool}
use Rattle.std.proofs.Common.{inl, inr, refl, sym, ap, ◌∙◌, subst, arith, add-one, drop-cons, true≢false}
use Rattle.std.proofs.lemmas.List.{map-append, append_assoc, length-append, length-map, length_push}
use Rattle.std.proofs.lemmas.List.{take_all, take_more, length-take-le, take-append-le, drop-drop, set_at, flat_map_more}
use Rattle.std.proofs.lemmas.List.Concat.{flat_map-cons}
use Rattle.std.proofs.Math.Seq.{take-append_seam, drop-append-add}
use mathlib.Core.Logic.{dite}
use native.Mathlib.Decide.{ℕ_discrete}
use Rattle.chip_graph.specs.Multigraph.{Multigraph}
use Rattle.chip_graph.specs.ChipGame.{ChipGame}
use Rattle.chip_graph.specs.More.{HasMore}
use Rattle.chip_sequence.specs.Firing.{IsStable}
use Rattle.chip_fire.specs.declared.pile.Pile.{Pile}
use Rattle.chip_fire.specs.declared.avalanche.Measured.{Measured}
use Rattle.chip_fire.specs.Pile.{IsPile}
use Rattle.chip_fire.specs.Avalanches.{dropped, IsAvalanche}
use Rattle.chip_fire.specs.Measured.{HasRow, IsDuration, row_vertices, row_times}
use Rattle.chip_library.specs.declared.fault.CallFault.{CallFault}
use Rattle.chip_library.specs.declared.fault.CallFault.TheVariants.{Lengths, Stopped}
use Rattle.chip_library.specs.declared.kept.PileState.TheVariants.{Stable}
use Rattle.chip_library.specs.Drops.{Told, AreOn, CanFall}
use Rattle.chip_library.specs.KeptGames.{KeptGame, IsKept, Plays, Rows, with_rows, DropsOnStable, DropsEach}
use Rattle.chip_library.specs.Measures.{Noted, told_of, AreNoted, LeavesNoted, noted_on, MeasuresOnStable}
use Rattle.chip_library.specs.Measures.{Measures, is_timed, AreMeasures, fired_in, times_in, ends_from, at_front}
use Rattle.chip_library.specs.Measures.{fires_marked, fires_both, EndsRun, LastEnds, IsFull, RunHasEnded, AreAsked, AreWritten}
use Rattle.chip_library.specs.Measures.{MeasuresSome, MeasuresEach}
use Rattle.chip_library.proofs.DropLemmas.{leaves_none, on_more}
use Rattle.chip_library.proofs.KeptLemmas.{more_drops, drops_well, played_once, first_more, first_all}

-- ---- drops one after another

-- drops after others continue these
noted_more : (G : Multigraph) (timed : Bool) (x : ℕ → ℕ) (notes : List Noted) (y : ℕ → ℕ) → AreNoted G timed x notes y
    → (more : List Noted) (z : ℕ → ℕ) → AreNoted G timed y more z → AreNoted G timed x (notes ++ more) z
noted_more G timed x [] y left more z are =
    let same : y ≡ x = (λ i v. left v i) in subst (λ (w : ℕ → ℕ). AreNoted G timed w more z) same are
noted_more G timed x (n ∷ notes) y (w, first, later) more z are =
    (w, first, noted_more G timed w notes y later more z are)

pub leaves_noted_more : (p : Pile) (timed : Bool) (notes : List Noted) (p' : Pile) → LeavesNoted p timed notes p'
    → (more : List Noted) (p'' : Pile) → LeavesNoted p' timed more p'' → LeavesNoted p timed (notes ++ more) p''
leaves_noted_more p timed notes p' so_far more p'' later =
    let told : told_of (notes ++ more) ≡ told_of notes ++ told_of more = map-append (λ (n : Noted). n.told) notes more in
    let are : AreNoted p.game.graph timed (slice_index p'.chips.items) more (slice_index p''.chips.items) =
    rw (← so_far.leaves.game.same_graph) later.noted in
    record {
      leaves = rw told (more_drops p (told_of notes) p' so_far.leaves (told_of more) p'' later.leaves);
      noted = noted_more p.game.graph timed _ notes _ so_far.noted more _ are;
    }

-- no drops yet
pub leaves_noted_none : (p : Pile) (timed : Bool) → IsPile p → IsStable p.game.graph (slice_index p.chips.items)
    → LeavesNoted p timed [] p
leaves_noted_none p timed is stable = record { leaves = leaves_none p is stable; noted = λ v. refl }

-- a drop on a stable pile
pub measures_well : (k : KeptGame) → IsKept k.pile k.state → k.state ≡ Stable → (v count : ℕ) (timed : Bool)
    (m : Measured) → v < k.pile.game.graph.vertices → (p : Pile) → IsPile p → HasMore k.pile.game ((v, count) ∷ []) p.game
    → IsStable k.pile.game.graph (slice_index p.chips.items)
    × IsAvalanche k.pile.game.graph (dropped (slice_index k.pile.chips.items) v count) m.avalanche (slice_index p.chips.items)
    × HasRow k.pile.game.graph (dropped (slice_index k.pile.chips.items) v count) (row_vertices p) (row_times p)
    × (timed ≡ true → IsDuration k.pile.game.graph (dropped (slice_index k.pile.chips.items) v count) m.duration)
    → LeavesNoted k.pile timed (noted_on p v count m ∷ []) p
measures_well k kept stable v count timed m inside p is more (rests, avalanche, row, lasts) = record {
  leaves = drops_well k kept stable v count m.avalanche inside p is more (rests, avalanche);
  noted = (slice_index p.chips.items, record { avalanche = avalanche; row = row; duration = lasts }, λ v. refl);
}

-- ---- where a run ends

-- no vertex has a bit if there are no marks
pub fires_none : (marks : List ℕ) → length marks ≡ 0 → (bit : ℕ) (vertices : List ℕ)
    → fires_marked marks bit vertices ≡ false
fires_none [] none bit [] = refl
fires_none [] none bit (v ∷ more) = fires_none [] none bit more
fires_none (m ∷ ms) none bit vertices = absurd (omega arith)

both_none : (bit other : ℕ) (vertices : List ℕ) → fires_both [] bit other vertices ≡ false
both_none bit other vertices = rw (fires_none [] refl bit vertices) refl

-- if nothing is asked, no drop ends the run
never_ends : (n : Noted) → EndsRun false [] n → ⊥
never_ends n (inl (loses, lost)) = true≢false (sym loses)
never_ends n (inr (inl one)) = true≢false (sym one ∙ fires_none [] refl 1 n.vertices)
never_ends n (inr (inr (inl two))) = true≢false (sym two ∙ both_none 2 4 n.vertices)
never_ends n (inr (inr (inr two))) = true≢false (sym two ∙ both_none 8 16 n.vertices)

last_never : (notes : List Noted) → LastEnds (EndsRun false []) notes → ⊥
last_never [] ends = ends
last_never (n ∷ []) ends = never_ends n ends
last_never (n ∷ m ∷ more) ends = last_never (m ∷ more) ends

-- the last one is the drop that is made
last_push : (Ends : Noted → Type 0) (is_over : Bool) (notes : List Noted) (n : Noted)
    → MatchBool is_over (Ends n) (Ends n → ⊥)
    → MatchBool is_over (LastEnds Ends (notes ++ n ∷ [])) (LastEnds Ends (notes ++ n ∷ []) → ⊥)
last_push Ends is_over [] n ends = ends
last_push Ends is_over (m ∷ []) n ends = ends
last_push Ends is_over (m ∷ k ∷ more) n ends = last_push Ends is_over (k ∷ more) n ends

-- ---- what is written

-- no numbers are written into a column
pub front_none : (column : List ℕ) → at_front [] column ≡ column
front_none [] = refl
front_none (x ∷ xs) = refl

-- nor any into an empty column
front_empty : (numbers column : List ℕ) → length column ≡ 0 → at_front numbers column ≡ column
front_empty numbers [] none = refl
front_empty numbers (x ∷ xs) none = absurd (omega arith)

-- one more number
pub front_push : (numbers : List ℕ) (x : ℕ) (column : List ℕ) (i : ℕ) → length numbers ≡ i
    → (0 < length column → i < length column) → set (at_front numbers column) i x ≡ at_front (numbers ++ x ∷ []) column
front_push numbers x [] i long inside = refl
front_push numbers x (c ∷ cs) i long inside =
    let column : List ℕ = c ∷ cs in
    let within : i < length column = inside (omega arith) in
    let rest : drop (length numbers) column ≡ slice_index column (length numbers) ∷ drop (length numbers + 1) column =
    rw add-one (drop-cons column (length numbers) 0 (omega arith)) in
    let written = set_at numbers (slice_index column (length numbers)) (drop (length numbers + 1) column) x i (omega arith) in
    let longer = length_push numbers x in
    rw (rest, longer, append_assoc) written

-- more numbers, after the others
front_row : (xs ys column : List ℕ) → length xs + length ys ≤ length column
    → take (length xs) (at_front xs column) ++ ys ++ drop (length xs + length ys) (at_front xs column)
    ≡ at_front (xs ++ ys) column
front_row [] [] [] fits = refl
front_row (x ∷ xs) ys [] fits = absurd (omega arith)
front_row [] (y ∷ ys) [] fits = absurd (omega arith)
front_row xs ys (c ∷ cs) fits =
    let rest : List ℕ = drop (length xs) (c ∷ cs) in
    let first : take (length xs) (xs ++ rest) ≡ xs = take-append_seam xs rest in
    let last : drop (length xs + length ys) (xs ++ rest) ≡ drop (length ys) rest = drop-append-add xs rest (length ys) in
    let behind : drop (length ys) rest ≡ drop (length xs + length ys) (c ∷ cs) = drop-drop (length ys) (length xs) (c ∷ cs) in
    let long : length (xs ++ ys) ≡ length xs + length ys = length-append xs ys in rw (first, last, behind, long) refl

-- where the drops end, with one more
ends_push : (start : ℕ) (notes : List Noted) (n : Noted) (end : ℕ)
    → end ≡ start + length (fired_in notes) + length n.vertices
    → ends_from start (notes ++ n ∷ []) ≡ ends_from start notes ++ end ∷ []
ends_push start [] n end is = let same : start + length n.vertices ≡ end = omega arith in rw same refl
ends_push start (m ∷ notes) n end is =
    let long : length (m.vertices ++ fired_in notes) ≡ length m.vertices + length (fired_in notes) =
    length-append m.vertices (fired_in notes) in
    let cons : fired_in (m ∷ notes) ≡ m.vertices ++ fired_in notes = flat_map-cons (λ (n : Noted). n.vertices) m notes in
    let same : length (fired_in (m ∷ notes)) ≡ length (m.vertices ++ fired_in notes) = ap length cons in
    ap (λ ends. (start + length m.vertices) ∷ ends)
    (ends_push (start + length m.vertices) notes n end (omega arith))

length_ends : (start : ℕ) (notes : List Noted) → length (ends_from start notes) ≡ length notes
length_ends start [] = refl
length_ends start (n ∷ notes) =
    let rest = length_ends (start + length n.vertices) notes in omega arith

-- what fired in these drops is in the memory up to `end`, if it is asked for
pub record HoldsRows (notes : List Noted) (ends0 vertices0 times0 ends vertices times : List ℕ) (end : ℕ) : Type 0 where
  pub ends_are : ends ≡ at_front (ends_from 0 notes) ends0
  pub vertices_are : vertices ≡ at_front (fired_in notes) vertices0
  pub times_are : times ≡ at_front (times_in notes) times0
  pub end_is : 0 < length ends0 → end ≡ length (fired_in notes)
  pub as_many : length (times_in notes) ≡ length (fired_in notes)

-- no drops
holds_none : (ends0 vertices0 times0 : List ℕ) → HoldsRows [] ends0 vertices0 times0 ends0 vertices0 times0 0
holds_none ends0 vertices0 times0 = record {
  ends_are = sym (front_none ends0);
  vertices_are = sym (front_none vertices0);
  times_are = sym (front_none times0);
  end_is = λ any. refl;
  as_many = refl;
}

-- what one more drop fires is written after that of the others, from `end` to `end'`
pub record WritesRow (n : Noted) (i end end' : ℕ) (ends vertices times ends' vertices' times' : List ℕ) : Type 0 where
  pub none : length ends ≡ 0 → (end' ≡ end) × (vertices' ≡ vertices) × (times' ≡ times)
  pub ends_are : ends' ≡ set ends i end'
  pub end_is : 0 < length ends → end' ≡ end + length n.vertices
  pub vertices_are : 0 < length ends → vertices' ≡ take end vertices ++ n.vertices ++ drop end' vertices
  pub times_are : 0 < length ends → times' ≡ take end times ++ n.times ++ drop end' times

module _ (notes : List Noted) (n : Noted) (as_many : length n.times ≡ length n.vertices) where
  -- all that fired, with what one more drop fires
  fired_more : fired_in (notes ++ n ∷ []) ≡ fired_in notes ++ n.vertices
  fired_more = sym (flat_map_more (λ (m : Noted). m.vertices) [] notes n)

  times_more : times_in (notes ++ n ∷ []) ≡ times_in notes ++ n.times
  times_more = sym (flat_map_more (λ (m : Noted). m.times) [] notes n)

  as_many_more : length (times_in notes) ≡ length (fired_in notes)
      → length (times_in (notes ++ n ∷ [])) ≡ length (fired_in (notes ++ n ∷ []))
  as_many_more so_far =
      let a = length-append (times_in notes) n.times in
      let b = length-append (fired_in notes) n.vertices in rw (times_more, fired_more) (omega arith)

  holds_more : (i end end' : ℕ) (ends0 vertices0 times0 ends vertices times ends' vertices' times' : List ℕ)
      → length notes ≡ i → (0 < length ends0 → i < length ends0) → (length ends0 ≡ 0 → length vertices0 ≡ 0)
      → length times0 ≡ length vertices0 → length ends ≡ length ends0 → (0 < length ends0 → end' ≤ length vertices0)
      → HoldsRows notes ends0 vertices0 times0 ends vertices times end
      → WritesRow n i end end' ends vertices times ends' vertices' times'
      → HoldsRows (notes ++ n ∷ []) ends0 vertices0 times0 ends' vertices' times' end'
  holds_more i end end' [] vertices0 times0 ends vertices times ends' vertices' times' long inside none alike same fits so_far writes =
      let left = writes.none same in
      let no_vertices : length vertices0 ≡ 0 = none refl in
      let no_times : length times0 ≡ 0 = omega arith in record {
        ends_are = writes.ends_are ∙ ap (λ l. set l i end') so_far.ends_are;
        vertices_are = left.1 ∙ so_far.vertices_are ∙ front_empty _ vertices0 no_vertices ∙ sym (front_empty _ vertices0 no_vertices);
        times_are = left.2 ∙ so_far.times_are ∙ front_empty _ times0 no_times ∙ sym (front_empty _ times0 no_times);
        end_is = λ any. absurd (omega arith);
        as_many = as_many_more so_far.as_many;
      }
  holds_more i end end' (e ∷ es) vertices0 times0 ends vertices times ends' vertices' times' long inside none alike same fits so_far writes =
      let some0 : 0 < length (e ∷ es) = omega arith in
      let some : 0 < length ends = omega arith in
      let at_end : end ≡ length (fired_in notes) = so_far.end_is some0 in
      let as_often : length (times_in notes) ≡ length (fired_in notes) = so_far.as_many in
      let at_next : end' ≡ end + length n.vertices = writes.end_is some in
      let room : end' ≤ length vertices0 = fits some0 in
      let next : end' ≡ length (fired_in notes) + length n.vertices = omega arith in
      let there : end ≡ length (times_in notes) = omega arith in
      let next_times : end' ≡ length (times_in notes) + length n.times = omega arith in
      let vertices_row = front_row (fired_in notes) n.vertices vertices0 (omega arith) in
      let times_row = front_row (times_in notes) n.times times0 (omega arith) in
      let vertices_written = writes.vertices_are some in
      let times_written = writes.times_are some in
      let vertices_are = so_far.vertices_are in
      let times_are = so_far.times_are in record {
        ends_are = writes.ends_are ∙ ap (λ l. set l i end') so_far.ends_are
            ∙ front_push (ends_from 0 notes) end' (e ∷ es) i (length_ends 0 notes ∙ long) inside
            ∙ ap (λ l. at_front l (e ∷ es)) (sym (ends_push 0 notes n end' (omega arith)));
        vertices_are = rw fired_more cc;
        times_are = rw times_more cc;
        end_is = λ any. rw (fired_more, length-append) next;
        as_many = as_many_more so_far.as_many;
      }

-- what held of the first drops, and holds of all, does so with one more
each_more : (P : List Noted → Type 0) (notes : List Noted) (n : Noted) (i : ℕ) → length notes ≡ i
    → ((j : ℕ) → j < i → P (take j notes)) → P notes → (j : ℕ) → j < i + 1 → P (take j (notes ++ n ∷ []))
each_more P notes n i long each last j inside =
    let front : take j (notes ++ n ∷ []) ≡ take j notes = take-append-le j notes (n ∷ []) (omega arith) in
    subst P (sym front) (dite (ℕ_discrete j i) (λ is. subst P (sym (take_all j notes (omega arith))) last)
    (λ no. each j (omega arith)))

-- the first i drops were made and measured, and what is asked for of them is written: what fired up to `end`; the run
-- is over if the last one ends it
pub record SoFar (old new : KeptGame) (at amounts : List ℕ) (Ends : Noted → Type 0) (before now : Measures)
    (notes : List Noted) (is_over : Bool) (end i : ℕ) : Type 0 where
  pub many : length notes ≡ i
  pub stable : new.state ≡ Stable
  pub left : LeavesNoted old.pile (is_timed before) notes new.pile
  pub on : AreOn (told_of notes) (take i at) (take i amounts)
  pub rows : now.rows ≡ with_rows (told_of notes) before.rows
  pub durations : now.durations ≡ at_front (map (λ (n : Noted). n.rounds) notes) before.durations
  pub fired : HoldsRows notes before.ends before.vertices before.times now.ends now.vertices now.times end
  pub within : end ≤ length now.vertices
  pub over : MatchBool is_over (LastEnds Ends notes) (LastEnds Ends notes → ⊥)
  pub going : (j : ℕ) → j < i → RunHasEnded old.pile.game.graph before Ends (take j notes) → ⊥

-- no drops yet
pub so_far_none : (k : KeptGame) (at amounts : List ℕ) (Ends : Noted → Type 0) (before : Measures)
    → IsKept k.pile k.state → k.state ≡ Stable → SoFar k k at amounts Ends before before [] false 0 0
so_far_none k at amounts Ends before kept stable =
    let rests = kept.stable stable in record {
      many = refl;
      stable = stable;
      left = leaves_noted_none k.pile (is_timed before) rests.0 rests.1;
      on = record { vertices = refl; chips = refl };
      rows = refl;
      durations = sym (front_none before.durations);
      fired = holds_none before.ends before.vertices before.times;
      within = omega arith;
      over = λ ends. ends;
      going = λ j inside. absurd (omega arith);
    }

-- the next one is made
pub not_over : (old new : KeptGame) (at amounts : List ℕ) (Ends : Noted → Type 0) (before now : Measures)
    (notes : List Noted) (is_over : Bool) (end i : ℕ)
    → SoFar old new at amounts Ends before now notes is_over end i → length now.ends ≡ length before.ends
    → length now.vertices ≡ length before.vertices → is_over ≡ false
    → (0 < length now.ends → end + new.pile.game.graph.vertices ≤ length now.vertices)
    → RunHasEnded old.pile.game.graph before Ends notes → ⊥
not_over old new at amounts Ends before now notes is_over end i so_far ends_each vertices_each going room (inr ends) =
    let not : LastEnds Ends notes → ⊥ = rw going at so_far.over in not ends
not_over old new at amounts Ends before now notes is_over end i so_far ends_each vertices_each going room
    (inl (some, less)) =
    let same = ap (λ (G : Multigraph). G.vertices) so_far.left.leaves.game.same_graph in
    let there : end ≡ length (fired_in notes) = so_far.fired.end_is some in
    let any : 0 < length now.ends = omega arith in
    let fits : end + new.pile.game.graph.vertices ≤ length now.vertices = room any in omega arith

-- there is no room
pub is_full : (old new : KeptGame) (at amounts : List ℕ) (Ends : Noted → Type 0) (before now : Measures)
    (notes : List Noted) (is_over : Bool) (end i : ℕ)
    → SoFar old new at amounts Ends before now notes is_over end i → length now.ends ≡ length before.ends
    → length now.vertices ≡ length before.vertices
    → (0 < length now.ends) × (length now.vertices < end + new.pile.game.graph.vertices)
    → IsFull old.pile.game.graph before notes
is_full old new at amounts Ends before now notes is_over end i so_far ends_each vertices_each (some, less) =
    let same = ap (λ (G : Multigraph). G.vertices) so_far.left.leaves.game.same_graph in
    let any : 0 < length before.ends = omega arith in
    let there : end ≡ length (fired_in notes) = so_far.fired.end_is any in (any, omega arith)

-- a number has its place among the durations, if there are any, and among the ends
pub duration_there : (at amounts : List ℕ) (m : Measures) → AreMeasures at amounts m → (i : ℕ) → i < length at
    → 0 < length m.durations → i < length m.durations
duration_there at amounts m measures i inside any =
    ⊎_elim (λ none. absurd (omega arith)) (λ all. omega arith) measures.durations_each

pub end_there : (at amounts : List ℕ) (m : Measures) → AreMeasures at amounts m → (i : ℕ) → i < length at
    → 0 < length m.ends → i < length m.ends
end_there at amounts m measures i inside any =
    ⊎_elim (λ all. omega arith) (λ none. absurd (let none_of_ends = none.0 in omega arith)) measures.ends_each

-- as many counts as vertices
pub row_lengths : (p : Pile) → IsPile p
    → (length (row_vertices p) ≡ p.room.row) × (length (row_times p) ≡ p.room.row) × (p.room.row ≤ p.game.graph.vertices)
row_lengths p is =
    let room = is.room.room in
    let row = room.row in
    let support_each = room.support_each in
    let list_room = room.list_room in
    (length-take-le p.room.row p.room.support.items (omega arith), length-take-le p.room.row p.room.list.items (omega arith), row)

-- one more row
rows_more : (told : List Told) (t : Told) (i : ℕ) (before now now' : Rows) → length told ≡ i
    → (i < length before.sizes) × (i < length before.extents) × (i < length before.losts) → now ≡ with_rows told before
    → now' ≡ record {
      sizes = set now.sizes i t.1.size;
      extents = set now.extents i t.1.extent;
      losts = set now.losts i t.1.lost;
    } → now' ≡ with_rows (told ++ t ∷ []) before
rows_more told t i before now now' long (sizes, extents, losts) so_far more =
    let a = first_more (λ (t : Told). t.1.size) told t before.sizes i long sizes in
    let b = first_more (λ (t : Told). t.1.extent) told t before.extents i long extents in
    let c = first_more (λ (t : Told). t.1.lost) told t before.losts i long losts in rw (more, so_far, a, b, c) refl

pub so_far_more : (old new new' : KeptGame) (at amounts : List ℕ) (Ends : Noted → Type 0) (before now now' : Measures)
    (notes : List Noted) (is_over is_over' : Bool) (end end' i : ℕ) (m : Measured) → AreMeasures at amounts before
    → i < length at → length now.ends ≡ length before.ends → length now'.vertices ≡ length before.vertices
    → SoFar old new at amounts Ends before now notes is_over end i → (RunHasEnded old.pile.game.graph before Ends notes → ⊥)
    → MeasuresOnStable new new' (slice_index at i) (slice_index amounts i) (is_timed before) (Some m)
    → now'.rows ≡ record {
      sizes = set now.rows.sizes i m.avalanche.size;
      extents = set now.rows.extents i m.avalanche.extent;
      losts = set now.rows.losts i m.avalanche.lost;
    }
    → now'.durations ≡ set now.durations i m.duration
    → WritesRow (noted_on new'.pile (slice_index at i) (slice_index amounts i) m) i end end' now.ends now.vertices now.times
    now'.ends now'.vertices now'.times
    → end' ≤ length now'.vertices
    → MatchBool is_over' (Ends (noted_on new'.pile (slice_index at i) (slice_index amounts i) m))
    (Ends (noted_on new'.pile (slice_index at i) (slice_index amounts i) m) → ⊥)
    → SoFar old new' at amounts Ends before now'
    (notes ++ noted_on new'.pile (slice_index at i) (slice_index amounts i) m ∷ []) is_over' end' (i + 1)
so_far_more old new new' at amounts Ends before now now' notes is_over is_over' end end' i m measures inside ends_each
    vertices_each so_far not (stable, leaves) rows durations writes within over =
    let n : Noted = noted_on new'.pile (slice_index at i) (slice_index amounts i) m in
    let long = so_far.many in
    let each = measures.rows in
    let amounts_each = each.amounts_each in
    let sizes_each = each.sizes_each in
    let extents_each = each.extents_each in
    let losts_each = each.losts_each in
    let lengths = row_lengths new'.pile leaves.leaves.pile in
    let as_many : length n.times ≡ length n.vertices = lengths.1 ∙ sym lengths.0 in
    let told : told_of (notes ++ n ∷ []) ≡ told_of notes ++ n.told ∷ [] = map-append (λ (n : Noted). n.told) notes (n ∷ []) in
    let told_long : length (told_of notes) ≡ i = length-map notes (λ (n : Noted). n.told) ∙ long in
    let rounds : map (λ (n : Noted). n.rounds) (notes ++ n ∷ []) ≡ map (λ (n : Noted). n.rounds) notes ++ n.rounds ∷ [] =
    map-append (λ (n : Noted). n.rounds) notes (n ∷ []) in
    let rounds_long : length (map (λ (n : Noted). n.rounds) notes) ≡ i = length-map notes (λ (n : Noted). n.rounds) ∙ long in
    record {
      many = omega (arith, length_push notes n);
      stable = stable;
      left = leaves_noted_more old.pile (is_timed before) notes new.pile so_far.left (n ∷ []) new'.pile leaves;
      on = rw (told, take_more at i 0 inside, take_more amounts i 0 (omega arith)) (on_more (told_of notes) _ _ so_far.on n.told);
      rows = rw told (rows_more (told_of notes) n.told i before.rows now.rows now'.rows told_long
          (omega arith, omega arith, omega arith) so_far.rows rows);
      durations = rw rounds (durations ∙ ap (λ l. set l i m.duration) so_far.durations
          ∙ front_push (map (λ (n : Noted). n.rounds) notes) m.duration before.durations i rounds_long
          (duration_there at amounts before measures i inside));
      fired = holds_more notes n as_many i end end' before.ends before.vertices before.times now.ends now.vertices now.times
          now'.ends now'.vertices now'.times long
          (end_there at amounts before measures i inside)
          (λ no. ⊎_elim (λ all. absurd (omega arith)) (λ none. none.1) measures.ends_each)
          measures.times_each ends_each (λ any. omega arith) so_far.fired writes;
      within = within;
      over = last_push Ends is_over' notes n over;
      going = each_more (λ (made : List Noted). RunHasEnded old.pile.game.graph before Ends made → ⊥) notes n i long so_far.going not;
    }

pub so_far_written : (old new : KeptGame) (at amounts : List ℕ) (Ends : Noted → Type 0) (before now : Measures)
    (notes : List Noted) (is_over : Bool) (end i : ℕ) → Plays old old (Ok tt)
    → SoFar old new at amounts Ends before now notes is_over end i
    → AreWritten old new at amounts Ends before now notes
so_far_written old new at amounts Ends before now notes is_over end i plays so_far =
    let rows = so_far.rows in
    let durations = so_far.durations in
    let ends = so_far.fired.ends_are in
    let vertices = so_far.fired.vertices_are in
    let times = so_far.fired.times_are in record {
      on = rw so_far.many so_far.on;
      measured = (old, plays, so_far.stable, so_far.left);
      written = rw (← rows, ← durations, ← ends, ← vertices, ← times) refl;
      going = rw so_far.many so_far.going;
    }

-- ---- one call after another

-- drops on a pile that was played out are drops on the pile before that play
written_played : (old played new : KeptGame) (at amounts : List ℕ) (Ends : Noted → Type 0) (before after : Measures)
    (notes : List Noted) → Plays old played (Ok tt) → AreWritten played new at amounts Ends before after notes
    → AreWritten old new at amounts Ends before after notes
written_played old played new at amounts Ends before after notes first made =
    let (end, again, stable, leaves) = made.measured in record {
      on = made.on;
      measured = (end, (played_once old played end first again.0, again.1), stable, leaves);
      written = made.written;
      going = subst (λ (g : ChipGame). (i : ℕ) → i < length notes → RunHasEnded g.graph before Ends (take i notes) → ⊥)
          first.0.same_game made.going;
    }

pub measures_played : (old played new : KeptGame) (at amounts : List ℕ) (loses : Bool) (marks : List ℕ)
    (before after : Measures) → AreAsked old.pile.game.graph at amounts marks before
    → CanFall old.pile.game at amounts (length at) → Plays old played (Ok tt)
    → (told : Result ℕ CallFault) → MeasuresSome played new at amounts (EndsRun loses marks) before after told
    → MeasuresEach old new at amounts loses marks before after told
measures_played old played new at amounts loses marks before after measures can first (Ok made) (notes, written, long, stops) = (
  measures,
  can,
  (
    notes,
    written_played old played new at amounts (EndsRun loses marks) before after notes first written,
    long,
    subst (λ (g : ChipGame). (made ≡ length at) ⊎ ((made < length at) × RunHasEnded g.graph before (EndsRun loses marks) notes))
        first.0.same_game stops,
  ),
)
measures_played old played new at amounts loses marks before after measures can first (Err fault)
    (i, is, (notes, k, written, long, inside, room, stopped)) =
    subst (λ (f : CallFault). MeasuresEach old new at amounts loses marks before after (Err f)) (sym is) (
      measures,
      can,
      inr (
        notes,
        k,
        written_played old played k at amounts (EndsRun loses marks) before after notes first written,
        long,
        inside,
        subst (λ (g : ChipGame). RunHasEnded g.graph before (EndsRun loses marks) notes → ⊥) first.0.same_game room,
        stopped,
      ),
    )

-- ---- drops of which nothing more is asked

-- no more is asked for
pub record AsksNone (m : Measures) : Type 0 where
  pub durations : length m.durations ≡ 0
  pub ends : length m.ends ≡ 0
  pub vertices : length m.vertices ≡ 0
  pub times : length m.times ≡ 0

drops_all : (old new : KeptGame) (at amounts : List ℕ) (before after : Measures) → AsksNone before → (made : ℕ)
    → MeasuresEach old new at amounts false [] before after (Ok made)
    → DropsEach old new at amounts before.rows after.rows (Ok tt)
drops_all old new at amounts before after none made (measures, can, (notes, written, long, stops)) =
    let (played, plays, stable, leaves) = written.measured in
    let no_ends = none.ends in
    let all : made ≡ length at = elim stops [
      | inl is ↦ is
      | inr (fewer, inl full) ↦ absurd (let some = full.0 in omega arith)
      | inr (fewer, inr last) ↦ absurd (last_never notes last)
    ] in
    let each = measures.0.rows in
    let sizes_each = each.sizes_each in
    let extents_each = each.extents_each in
    let losts_each = each.losts_each in
    let amounts_each = each.amounts_each in
    let told : List Told = told_of notes in
    let as_many : length told ≡ length notes = length-map notes (λ (n : Noted). n.told) in
    let rows = ap (λ (m : Measures). m.rows) written.written in (
      each,
      told,
      rw (take_all (length notes) at (omega arith), take_all (length notes) amounts (omega arith)) at written.on,
      record {
        sizes_are = first_all (λ t. t.1.size) told before.rows.sizes (omega arith) ∙ sym (ap (λ (r : Rows). r.sizes) rows);
        extents_are = first_all (λ t. t.1.extent) told before.rows.extents (omega arith) ∙ sym (ap (λ (r : Rows). r.extents) rows);
        losts_are = first_all (λ t. t.1.lost) told before.rows.losts (omega arith) ∙ sym (ap (λ (r : Rows). r.losts) rows);
      },
      (played, plays, stable, leaves.leaves),
    )

drops_not : (old new : KeptGame) (at amounts : List ℕ) (before after : Measures) → AsksNone before
    → (fault : CallFault) → MeasuresEach old new at amounts false [] before after (Err fault)
    → DropsEach old new at amounts before.rows after.rows (Err fault)
drops_not old new at amounts before after none Lengths (same, unwritten, differ) = (
  same,
  ap (λ (m : Measures). m.rows) unwritten,
  λ rows. differ (
    record {
      rows = rows;
      durations_each = inl none.durations;
      ends_each = inr (none.ends, none.vertices);
      times_each = none.times ∙ sym none.vertices;
    },
    inl refl,
  ),
)
drops_not old new at amounts before after none (Stopped i) (measures, can, stops) = (
  measures.0.rows,
  can,
  elim stops [
    | inl (zero, unwritten, halts) ↦ inl (zero, ap (λ (m : Measures). m.rows) unwritten, halts)
    | inr (notes, k, written, long, inside, room, stopped) ↦
        let (played, plays, stable, leaves) = written.measured in
        inr (
          told_of notes,
          k,
          (played, plays, stable, leaves.leaves),
          length-map notes (λ (n : Noted). n.told) ∙ long,
          inside,
          rw long at written.on,
          ap (λ (m : Measures). m.rows) written.written,
          stopped,
        )
  ],
)
drops_not old new at amounts before after none fault told =
    (told.0, ap (λ (m : Measures). m.rows) told.1, told.2.0.rows, told.3)

pub drops_ok : (old new : KeptGame) (at amounts : List ℕ) (before after : Measures) → AsksNone before
    → (told : Result ℕ CallFault) (made : ℕ) → told ≡ Ok made
    → MeasuresEach old new at amounts false [] before after told
    → DropsEach old new at amounts before.rows after.rows (Ok tt)
drops_ok old new at amounts before after none told made is each =
    drops_all old new at amounts before after none made (rw is at each)

pub drops_err : (old new : KeptGame) (at amounts : List ℕ) (before after : Measures) → AsksNone before
    → (told : Result ℕ CallFault) (fault : CallFault) → told ≡ Err fault
    → MeasuresEach old new at amounts false [] before after told
    → DropsEach old new at amounts before.rows after.rows (Err fault)
drops_err old new at amounts before after none told fault is each =
    drops_not old new at amounts before after none fault (rw is at each)

-- its avalanche alone
pub measured_drop : (old new : KeptGame) (v count : ℕ) (timed : Bool) (m : Measured)
    → MeasuresOnStable old new v count timed (Some m) → DropsOnStable old new v count (Some m.avalanche)
measured_drop old new v count timed m (stable, left) = (stable, left.leaves)
