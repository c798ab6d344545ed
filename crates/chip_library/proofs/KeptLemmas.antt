-- Serves KeptGames.antt.
-- Where the play of a pile ends, and drops on it.
use Rattle.std.proofs.Common.{◌≡◌, ℕ, ◌+◌, ◌-◌, ◌<◌, ◌≤◌, ◌^◌, Bool, true, false, not, ◌&&◌, eqb, leb, cond, List, [], ◌∷◌, ◌++◌}
use Rattle.std.proofs.Common.{length, map, take, drop, set, sum, slice_index, Option, Some, None, Ok, Err}
use Rattle.std.proofs.Common.{inl, inr, refl, sym, ◌∙◌, subst, arith, true≢false}
use Rattle.std.proofs.lemmas.Bool.Decides.{nat_tests}
use Rattle.std.proofs.lemmas.List.{map-append, append_assoc, append-nil, length-map, length_push}
use Rattle.std.proofs.lemmas.List.{take_all, drop_all, set_at}
use Rattle.std.proofs.lemmas.Simd.{map-map}
use Rattle.std.proofs.Math.Numerals.{add-one}
use Rattle.std.proofs.lemmas.List.Sums.{sum-map, sum_by_more_le}
use Rattle.std.proofs.Math.Seq.{drop-cons}
use Rattle.std.proofs.lemmas.List.Elements.{All-append}
use Rattle.std.specs.Option.{ok_or}
use Rattle.std.specs.declared.vec.Vec.{Vec}
use Rattle.std.specs.declared.alloc.Global.{Global}
use Rattle.chip_graph.specs.Limits.{max_total, max_vertices}
use Rattle.chip_graph.specs.ChipGame.{ChipGame}
use Rattle.chip_graph.specs.Multigraph.{Multigraph, degree}
use Rattle.chip_graph.specs.More.{HasMore, AreOfVertices, all_brought}
use Rattle.chip_graph.proofs.SumLemmas.{sum_small}
use Rattle.chip_graph.proofs.PickLemmas.{length-picked}
use Rattle.chip_sequence.specs.Firing.{legal_vertices}
use Rattle.chip_sequence.specs.Play.{IsPlayed}
use Rattle.chip_sequence.specs.declared.outcome.Outcome.{Outcome}
use Rattle.chip_fire.specs.declared.pile.Pile.{Pile}
use Rattle.chip_fire.specs.Pile.{IsPile}
use Rattle.chip_fire.specs.BegunPile.{PlaysOn}
use Rattle.chip_sequence.specs.Firing.{IsStable}
use Rattle.chip_fire.proofs.PlayLemmas.{game_played}
use Rattle.chip_fire.specs.declared.avalanche.Avalanche.{Avalanche}
use Rattle.chip_fire.specs.Avalanches.{dropped, IsAvalanche, AreAvalanches}
use Rattle.chip_library.specs.declared.fault.CallFault.{CallFault}
use Rattle.chip_library.specs.declared.fault.CallFault.TheVariants.{Stopped}
use Rattle.chip_library.specs.declared.kept.PileState.TheVariants.{ToPlay, Stable}
use Rattle.chip_library.specs.Drops.{Told, drops_of, AreOn, BeginsPile, CanFall, Leaves}
use Rattle.chip_library.specs.KeptGames.{KeptGame, IsKept, BeginsGame, IsPlayedOut, Plays, Drops, DropsOnStable}
use Rattle.chip_library.specs.KeptGames.{with_first, GoesOn, PlaysSome}
use Rattle.chip_library.specs.KeptGames.{PilesAreOutcomes, DropsFollow, MoreDrops}
use Rattle.chip_library.proofs.DropLemmas.{made_all, leaves_none, leaves_more, all_more}

-- a list of few numbers in the place of another
with_few : (v : Vec ℕ Global) (xs : List ℕ) → length xs < 2 ^ 63 → (w : Vec ℕ Global) × (w.items ≡ xs)
with_few v xs few =
    (record { ptr = v.ptr; len = length xs; cap = length xs; alloc = v.alloc; items = xs; ok = (refl, omega arith); small = few }, refl)

-- few vertices are legal
few_legal : (G : Multigraph) (x : ℕ → ℕ) → G.vertices ≤ max_vertices → length (legal_vertices G x) < 2 ^ 63
few_legal G x few =
    let test : ℕ → Bool = λ v. not (eqb v G.sink) && leb (degree G v) (x v) in
    let a = length-picked test G.vertices in
    let b = sum_small G.vertices 1 (λ v. true) (λ v. cond (test v) 1 0) (λ v l. grind (arith, nat_tests)) in
    omega arith

pub piles_are_outcomes : PilesAreOutcomes
piles_are_outcomes p is =
    let G : Multigraph = p.game.graph in
    let begun = is.begun in
    let few : G.vertices ≤ max_vertices = is.game.graph_fits.few_vertices in
    let over = with_few p.fired (legal_vertices G (slice_index p.chips.items)) (few_legal G (slice_index p.chips.items) few) in
    let sealed = with_few p.fired [] (omega arith) in
    let o : Outcome = record { fired = p.fired; chips = p.chips; over = over.0; sealed = sealed.0 } in (
      o,
      game_played G p.game.limit p.game.start p.chips.items p.fired.items begun.in_range begun.on_the_way is.at_rest o
          is.game.start_fits refl refl over.1 sealed.1,
      refl,
      refl,
    )

-- a pile that was played until no vertex is legal is one on which chips are dropped
begins_pile : (g : ChipGame) (k played : KeptGame) → BeginsGame g k → Plays k played (Ok tt)
    → BeginsPile g played.pile (max_total - sum g.start)
begins_pile g k played begins plays =
    let same = plays.0.same_game ∙ begins.start.same_game in
    let rests = plays.0.kept.stable plays.1 in
    let (o, is_played, chips, fired) = piles_are_outcomes played.pile rests.0 in
    let few = begins.is_game.few_chips in record {
      is_game = begins.is_game;
      same_game = same;
      pile = rests.0;
      stable = rw same at rests.1;
      played = (o, subst (λ (h : ChipGame). IsPlayed h o) same is_played, chips);
      full = omega arith;
    }

pub drops_follow : DropsFollow
drops_follow g k played begins plays told p leaves =
    made_all g played.pile (max_total - sum g.start) (begins_pile g k played begins plays) told p leaves

-- avalanches after others continue these
avalanches_more : (G : Multigraph) (x : ℕ → ℕ) (told : List Told) (y : ℕ → ℕ) → AreAvalanches G x told y
    → (more : List Told) (z : ℕ → ℕ) → AreAvalanches G y more z → AreAvalanches G x (told ++ more) z
avalanches_more G x [] y left more z are =
    let same : y ≡ x = (λ i v. left v i) in subst (λ (w : ℕ → ℕ). AreAvalanches G w more z) same are
avalanches_more G x (t ∷ told) y (w, first, later) more z are =
    (w, first, avalanches_more G w told y later more z are)

pub more_drops : MoreDrops
more_drops p told p' so_far more p'' later =
    let drops : drops_of (told ++ more) ≡ drops_of told ++ drops_of more = map-append (λ (t : Told). t.0) told more in
    let inside : AreOfVertices p.game (drops_of more) = rw (← so_far.game.same_graph) later.vertices in
    let are : AreAvalanches p.game.graph (slice_index p'.chips.items) more (slice_index p''.chips.items) =
    rw (← so_far.game.same_graph) later.avalanches in
    record {
      pile = later.pile;
      stable = later.stable;
      game = rw drops (all_more p told p' so_far (drops_of more) p''.game later.game);
      vertices = rw drops (All-append (λ (pair : ℕ × ℕ). pair.0 < p.game.graph.vertices) (drops_of told) (drops_of more)
          so_far.vertices inside);
      avalanches = avalanches_more p.game.graph _ told _ so_far.avalanches more _ are;
    }

-- ---- plays in portions

-- where a play does not go on, it has ended
pub ended_pile : (p p' : Pile) (visits : ℕ) (any : Bool) → PlaysOn p p' visits any → any ≡ false → IsPile p'
ended_pile p p' visits true on not = absurd (true≢false not)
ended_pile p p' visits false on not = on.ended

-- a portion after which the play goes on
pub goes_on_some : (k : KeptGame) (p' : Pile) (visits : ℕ) (any : Bool) → k.state ≡ ToPlay → 0 < visits
    → PlaysOn k.pile p' visits any → any ≡ true → GoesOn k (record { pile = p'; state = ToPlay }) visits
goes_on_some k p' visits false to_play some on is = absurd (true≢false (sym is))
goes_on_some k p' visits true to_play some on is = record {
  was_to_play = to_play;
  to_play = refl;
  same_game = on.same_game;
  rises = on.rises;
  some_fired = λ l. on.some_fired;
  none = λ zero. absurd (omega arith);
  not_whole = λ whole. true≢false (on.whole whole);
}

-- no visits change nothing
pub stays_to_play : (k : KeptGame) (visits : ℕ) → k.state ≡ ToPlay → visits ≡ 0 → GoesOn k k visits
stays_to_play k visits to_play none = record {
  was_to_play = to_play;
  to_play = to_play;
  same_game = refl;
  rises = λ v. omega arith;
  some_fired = λ some. absurd (omega arith);
  none = λ zero. refl;
  not_whole = λ whole. absurd (omega arith);
}

-- a whole play has ended
pub whole_play : (old new : KeptGame) (left : Bool) → PlaysSome old new (2 ^ 64 - 1) (Ok left) → Plays old new (Ok tt)
whole_play old new true goes = absurd (goes.not_whole refl)
whole_play old new false plays = plays

-- ---- one call after another

-- a pile that was played out is unchanged when it is played again
pub played_once : (old played new : KeptGame) → Plays old played (Ok tt) → IsPlayedOut played new → IsPlayedOut old new
played_once old played new first again =
    let stable = first.1 in
    let over : played.state ≡ ToPlay → ⊥ = (λ is. cc) in record {
      kept = again.kept;
      same_game = again.same_game ∙ first.0.same_game;
      same = λ before. again.same over ∙ first.0.same before;
    }

-- a drop on a pile that was played out is one on the pile before that play
pub drops_played : (old played new : KeptGame) (v count : ℕ) → Plays old played (Ok tt) → v < old.pile.game.graph.vertices
    → (told : Option Avalanche) → DropsOnStable played new v count told → Drops old new v count (ok_or told (Stopped 0))
drops_played old played new v count first inside (Some a) (stable, leaves) = (played, first, stable, leaves)
drops_played old played new v count first inside None (halted, more) = (refl, inside, inr (played, first, halted, more))

-- the limit stopped the play before a drop
pub stopped_before : (old new : KeptGame) (v count : ℕ) → v < old.pile.game.graph.vertices → (fault : CallFault)
    → Plays old new (Err fault) → Drops old new v count (Err fault)
stopped_before old new v count inside fault (played, halted, is) =
    subst (λ (f : CallFault). Drops old new v count (Err f)) (sym is) (refl, inside, inl (played, halted, refl))

-- ---- a drop on a stable pile

-- a stable pile is played out
pub stays_played : (k : KeptGame) → IsKept k.pile k.state → k.state ≡ Stable → Plays k k (Ok tt)
stays_played k kept stable = (record { kept = kept; same_game = refl; same = λ before. refl }, stable)

-- an avalanche on it
pub drops_well : (k : KeptGame) → IsKept k.pile k.state → k.state ≡ Stable → (v count : ℕ) (a : Avalanche)
    → v < k.pile.game.graph.vertices → (p : Pile) → IsPile p → HasMore k.pile.game ((v, count) ∷ []) p.game
    → IsStable k.pile.game.graph (slice_index p.chips.items)
    × IsAvalanche k.pile.game.graph (dropped (slice_index k.pile.chips.items) v count) a (slice_index p.chips.items)
    → Leaves k.pile (((v, count), a) ∷ []) p
drops_well k kept stable v count a inside p is more tells =
    let rests = kept.stable stable in
    let none = leaves_none k.pile rests.0 rests.1 in
    leaves_more k.pile [] k.pile none ((v, count), a) inside p is more tells

-- ---- many drops

-- the chips of drops on these vertices, of these amounts
brought : (told : List Told) (at amounts : List ℕ) → AreOn told at amounts → all_brought (drops_of told) ≡ sum amounts
brought told at amounts on =
    let a = sum-map (λ (pair : ℕ × ℕ). pair.1) (drops_of told) in
    let b = map-map (λ (pair : ℕ × ℕ). pair.1) (λ (t : Told). t.0) told in
    let c = on.chips in cc

-- after the drops before it, the next one can fall
pub falls : (g : ChipGame) (at amounts : List ℕ) → length amounts ≡ length at → CanFall g at amounts (length at)
    → (told : List Told) (i : ℕ) → i < length at → AreOn told (take i at) (take i amounts)
    → (g' : ChipGame) → HasMore g (drops_of told) g'
    → (slice_index at i < g'.graph.vertices) × (sum g'.start + slice_index amounts i ≤ max_total)
falls g at amounts each can told i inside on g' more =
    let here = can.vertices i inside in
    let chips : sum g.start + sum amounts ≤ max_total = rw (take_all (length at) amounts (omega arith)) at can.chips in
    let so_far = brought told (take i at) (take i amounts) on in
    let next = sum_by_more_le (λ x. x) amounts i 0 (omega arith) in
    let total = more.total in (rw more.same_graph here, omega arith)

-- one more number of a column is written
pub first_more : (number : Told → ℕ) (told : List Told) (t : Told) (column : List ℕ) (i : ℕ) → length told ≡ i
    → i < length column
    → set (with_first number told column) i (number t) ≡ with_first number (told ++ t ∷ []) column
first_more number told t column i long inside =
    let rest : drop (length told) column ≡ slice_index column (length told) ∷ drop (length told + 1) column =
    rw add-one (drop-cons column (length told) 0 (omega arith)) in
    let first = length-map told number in
    let written = set_at (map number told) (slice_index column (length told)) (drop (length told + 1) column) (number t)
    i (omega arith) in
    let more = map-append number told (t ∷ []) in
    let longer = length_push told t in
    rw (rest, longer, more, append_assoc) written

-- all numbers of a column are written
pub first_all : (number : Told → ℕ) (told : List Told) (column : List ℕ) → length told ≡ length column
    → map number told ≡ with_first number told column
first_all number told column long =
    let none = drop_all (length told) column (omega arith) in rw (none, append-nil) refl
