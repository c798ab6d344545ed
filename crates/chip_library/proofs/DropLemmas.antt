-- Serves Drops.antt.
-- One more drop on a pile, with its avalanche, and how its play ends.
use Rattle.std.proofs.Common.{◌≡◌, ℕ, ◌<◌, cond, eqb, List, [], ◌∷◌, ◌++◌, length, take, get_or, slice_index}
use Rattle.std.proofs.Common.{refl, sym, ◌∙◌, subst, arith, rules, Contains}
use Rattle.std.proofs.lemmas.List.{map-append, nil_from_length}
use Rattle.std.proofs.lemmas.List.Sums.{sum_by-append}
use Rattle.std.proofs.lemmas.List.Elements.{All-nil, All-push, Contains-get_or}
use Rattle.chip_graph.specs.ChipGame.{ChipGame}
use Rattle.chip_graph.specs.More.{HasMore}
use Rattle.chip_sequence.specs.Firing.{legal_vertices}
use Rattle.chip_sequence.specs.Sequence.{position_after, IsWholePlay}
use Rattle.chip_sequence.specs.Play.{IsPlayed}
use Rattle.chip_sequence.specs.declared.outcome.Outcome.{Outcome}
use Rattle.chip_sequence.proofs.LegalLemmas.{legal_vertices_law}
use Rattle.chip_sequence.proofs.EndLemmas.{continued}
use Rattle.chip_sequence.proofs.CertificateLemmas.{end_of_the_way}
use Rattle.chip_fire.specs.declared.pile.Pile.{Pile}
use Rattle.chip_fire.specs.Avalanches.{dropped, IsAvalanche}
use Rattle.chip_fire.specs.Pile.{IsPile}
use Rattle.chip_sequence.specs.Firing.{IsStable}
use Rattle.chip_fire.proofs.DropLemmas.{told_more}
use Rattle.chip_library.specs.Drops.{Told, drops_of, ComesToRest, IsStopped, AreMade, Leaves, BeginsPile, AreOn}
use Rattle.chip_library.specs.Drops.{AreTold, IsFaultOfDrop, IsFaultAfter}
use Rattle.chip_library.specs.declared.fault.CallFault.{CallFault}

-- ---- where a play ends

-- some whole play of a game leaves these chips
abbrev pub EndsAt : ChipGame → List ℕ → Type 0
EndsAt g chips = (vs : List ℕ) × IsWholePlay g.graph (slice_index g.start) g.limit vs
    × ((v : ℕ) → slice_index chips v ≡ position_after g.graph (slice_index g.start) vs v)

-- if no vertex is legal it ends
pub rests_there : (g : ChipGame) (chips : List ℕ) → EndsAt g chips → IsStable g.graph (slice_index chips) → ComesToRest g
rests_there g chips (vs, whole, there) stable =
    let same : slice_index chips ≡ position_after g.graph (slice_index g.start) vs = (λ i v. there v i) in
    (vs, whole, subst (IsStable g.graph) same stable)

-- otherwise the limit stops it
pub stopped_there : (g : ChipGame) (chips : List ℕ) → EndsAt g chips → (IsStable g.graph (slice_index chips) → ⊥)
    → IsStopped g
stopped_there g chips (vs, whole, there) legal =
    let same : slice_index chips ≡ position_after g.graph (slice_index g.start) vs = (λ i v. there v i) in
    (vs, whole, λ ended. legal (subst (IsStable g.graph) (sym same) ended))

-- a pile is where its play ends
pub pile_ends : (p : Pile) → IsPile p → EndsAt p.game p.chips.items
pile_ends p is =
    let (vs, whole) = continued p.game.graph (slice_index p.game.start) p.game.limit [] tt (λ v. omega arith) in
    let end = end_of_the_way _ _ _ _ _ is.begun.on_the_way is.at_rest vs whole in
    (vs, whole, end.1)

-- an outcome gives where a play ends
pub outcome_ends : (g : ChipGame) (o : Outcome) → IsPlayed g o → EndsAt g o.chips.items
outcome_ends g o played = (played.ends.0, played.ends.1, played.position played.ends.0 played.ends.1)

-- an outcome of the game of a pile has the pile's chips
pub outcome_is : (p : Pile) → IsPile p → (o : Outcome) → IsPlayed p.game o
    → slice_index p.chips.items ≡ slice_index o.chips.items
outcome_is p is o played =
    let (vs, whole, there) = pile_ends p is in (λ i v. (there v ∙ sym (played.position vs whole v)) i)

module _ (g : ChipGame) (o : Outcome) (played : IsPlayed g o) where
  -- if the limit stopped no vertex, none is legal
  pub none_stopped : length o.over.items ≡ 0 → IsStable g.graph (slice_index o.chips.items)
  none_stopped none v can =
      let empty : legal_vertices g.graph (slice_index o.chips.items) ≡ [] = sym played.over ∙ nil_from_length _ none in
      let has : Contains [] v = subst (λ (l : List ℕ). Contains l v) empty
      ((legal_vertices_law g.graph (slice_index o.chips.items) v).1 can) in
      let past = has.1 in omega arith

  -- if it stopped one, that vertex is legal
  pub some_stopped : 0 < length o.over.items → IsStable g.graph (slice_index o.chips.items) → ⊥
  some_stopped some stable =
      let v : ℕ = get_or o.over.items 0 0 in
      let has : Contains (legal_vertices g.graph (slice_index o.chips.items)) v =
      subst (λ (l : List ℕ). Contains l v) played.over (Contains-get_or o.over.items 0 0 some) in
      stable v ((legal_vertices_law g.graph (slice_index o.chips.items) v).0 has)

-- ---- drops on a pile

-- nothing was dropped
pub leaves_none : (p : Pile) → IsPile p → IsStable p.game.graph (slice_index p.chips.items) → Leaves p [] p
leaves_none p is stable = record {
  pile = is;
  stable = stable;
  game = search rules;
  vertices = All-nil (λ (pair : ℕ × ℕ). pair.0 < p.game.graph.vertices);
  avalanches = λ v. refl;
}

module _ (p : Pile) (told : List Told) (p' : Pile) (so_far : Leaves p told p') (ds : List (ℕ × ℕ)) (g : ChipGame)
    (more : HasMore p'.game ds g) where
  -- more drops on all before them
  pub all_more : HasMore p.game (drops_of told ++ ds) g
  all_more =
      let before = so_far.game in record {
        same_graph = more.same_graph ∙ before.same_graph;
        same_limit = more.same_limit ∙ before.same_limit;
        start_each = more.start_each ∙ before.start_each;
        start = λ u l. (let a = before.start u l in let b = more.start u (let e = before.start_each in omega arith) in
            let c = sum_by-append (λ (pair : ℕ × ℕ). cond (eqb pair.0 u) pair.1 0) (drops_of told) ds in
            omega arith);
        total = (let c = sum_by-append (λ (pair : ℕ × ℕ). pair.1) (drops_of told) ds in omega arith);
      }

-- one more drop, with its avalanche
pub leaves_more : (p : Pile) (told : List Told) (p' : Pile) → Leaves p told p' → (t : Told)
    → t.0.0 < p.game.graph.vertices → (p'' : Pile) → IsPile p'' → HasMore p'.game (t.0 ∷ []) p''.game
    → IsStable p'.game.graph (slice_index p''.chips.items)
    × IsAvalanche p'.game.graph (dropped (slice_index p'.chips.items) t.0.0 t.0.1) t.1 (slice_index p''.chips.items)
    → Leaves p (told ++ t ∷ []) p''
leaves_more p told p' so_far t inside p'' is more tells =
    let drops : drops_of (told ++ t ∷ []) ≡ drops_of told ++ t.0 ∷ [] = map-append (λ (t : Told). t.0) told (t ∷ []) in
    record {
      pile = is;
      stable = rw more.same_graph tells.0;
      game = rw drops (all_more p told p' so_far (t.0 ∷ []) p''.game more);
      vertices = rw drops (All-push (λ (pair : ℕ × ℕ). pair.0 < p.game.graph.vertices) (drops_of told) t.0 so_far.vertices inside);
      avalanches = told_more _ _ told _ t _ so_far.avalanches (rw so_far.game.same_graph at tells.1);
    }

-- the drops on a pile that a game has become are made on the game
pub made_all : (g : ChipGame) (p : Pile) (room : ℕ) → BeginsPile g p room → (told : List Told) (p' : Pile)
    → Leaves p told p' → AreMade g told (slice_index p'.chips.items)
made_all g p room begins told p' leaves =
    let (o, played, chips) = begins.played in record {
      vertices = rw (← begins.same_game) leaves.vertices;
      avalanches = (o, played, rw (← begins.same_game, ← chips) leaves.avalanches);
      rest = (
        p'.game,
        rw (← begins.same_game) leaves.game,
        leaves.pile.game,
        rests_there p'.game p'.chips.items (pile_ends p' leaves.pile) leaves.stable,
      );
    }

-- one more drop is on one more vertex
pub on_more : (told : List Told) (at amounts : List ℕ) → AreOn told at amounts → (t : Told)
    → AreOn (told ++ t ∷ []) (at ++ t.0.0 ∷ []) (amounts ++ t.0.1 ∷ [])
on_more told at amounts on t = record {
  vertices = rw (← on.vertices) (map-append (λ (t : Told). t.0.0) told (t ∷ []));
  chips = rw (← on.chips) (map-append (λ (t : Told). t.0.1) told (t ∷ []));
}

-- one more avalanche is in the columns
pub told_in_columns : (told : List Told) (sizes extents losts : List ℕ) → AreTold told sizes extents losts → (t : Told)
    → AreTold (told ++ t ∷ []) (sizes ++ t.1.size ∷ []) (extents ++ t.1.extent ∷ []) (losts ++ t.1.lost ∷ [])
told_in_columns told sizes extents losts are t = record {
  sizes_are = rw (← are.sizes_are) (map-append (λ (t : Told). t.1.size) told (t ∷ []));
  extents_are = rw (← are.extents_are) (map-append (λ (t : Told). t.1.extent) told (t ∷ []));
  losts_are = rw (← are.losts_are) (map-append (λ (t : Told). t.1.lost) told (t ∷ []));
}

-- drop i has a fault, if i were made before it
pub fault_after : (g : ChipGame) (at amounts : List ℕ) (told : List Told) (i : ℕ) (fault : CallFault) → length told ≡ i
    → i < length at → AreOn told (take i at) (take i amounts)
    → IsFaultOfDrop g told (slice_index at i) (slice_index amounts i) fault → IsFaultAfter g at amounts told fault
fault_after g at amounts told i fault long inside on first =
    record { is_there = omega arith; drops = rw long on; first = rw long first }
