-- Serves DropRows.antt.
-- The rows of drops on a pile, and the bytes that are written.
use Rattle.std.proofs.Common.{◌≡◌, ℕ, ◌+◌, ◌-◌, ◌<◌, ◌≤◌, cond, eqb, List, [], ◌∷◌, length, get_or}
use Rattle.std.proofs.Common.{slice_index, refl, ap, ◌∙◌, arith, ◌^◌, take, ◌++◌}
use Rattle.std.proofs.Common.{rules, Option, take-add, length-append}
use Rattle.std.proofs.lemmas.List.Sums.{sum_by_more}
use Rattle.std.proofs.lemmas.List.{take_all, take_more, drop_all}
use Rattle.std.proofs.lemmas.List.{take-append-drop, take-append-le, drop-append-le, map-append, flat_map_more}
use Rattle.std.proofs.lemmas.Fmt.{length-decimal-le}
use Rattle.std.specs.Fmt.{decimal}
use Rattle.std.specs.Io.KnownBytes.{Appends}
use Rattle.std.proofs.KnownBytes.{Appends-nil, Appends-trans}
use Rattle.chip_graph.specs.ChipGame.{ChipGame}
use Rattle.chip_graph.specs.More.{HasMore}
use Rattle.chip_fire.specs.declared.avalanche.Avalanche.{Avalanche}
use Rattle.chip_fire.specs.declared.pile.Pile.{Pile}
use Rattle.chip_fire.specs.Avalanches.{dropped, IsAvalanche}
use Rattle.chip_fire.specs.Pile.{IsPile}
use Rattle.chip_sequence.specs.Firing.{IsStable}
use Rattle.chip_fire.proofs.DropLemmas.{told_more}
use Rattle.chip_engine.specs.DropRows.{row_text, rows_text, IsOut, LeavesRows, most_held}

-- nothing was dropped
pub rows_none : (p : Pile) → IsPile p → IsStable p.game.graph (slice_index p.chips.items)
    → LeavesRows p [] p (rows_text [])
rows_none p is stable =
    record { pile = is; stable = stable; game = search rules; rows = ([], refl, (λ v. refl), refl) }

-- the drop at i, after those before it
module _ (p : Pile) (ds : List (ℕ × ℕ)) (i : ℕ) (p' : Pile) (text : List ℕ) (so_far : LeavesRows p (take i ds) p' text)
    (inside : i < length ds) where
  pub next_game : (g : ChipGame) → HasMore p'.game (get_or ds i (0, 0) ∷ []) g → HasMore p.game (take (i + 1) ds) g
  next_game g more = let before = so_far.game in record {
    same_graph = more.same_graph ∙ before.same_graph;
    same_limit = more.same_limit ∙ before.same_limit;
    start_each = more.start_each ∙ before.start_each;
    start = λ v l. (let a = before.start v l in let b = more.start v (let e = before.start_each in omega arith) in
        let c = sum_by_more (λ (pair : ℕ × ℕ). cond (eqb pair.0 v) pair.1 0) ds i (0, 0) inside in omega arith);
    total = (let c = sum_by_more (λ (pair : ℕ × ℕ). pair.1) ds i (0, 0) inside in omega arith);
  }

  pub next_rows : (p'' : Pile) (a : Avalanche) → IsPile p'' → HasMore p'.game (get_or ds i (0, 0) ∷ []) p''.game
      → IsStable p'.game.graph (slice_index p''.chips.items)
      × IsAvalanche p'.game.graph (dropped (slice_index p'.chips.items) (get_or ds i (0, 0)).0 (get_or ds i (0, 0)).1) a
      (slice_index p''.chips.items)
      → LeavesRows p (take (i + 1) ds) p'' (text ++ row_text (get_or ds i (0, 0), a))
  next_rows p'' a is more told_by =
      let (told, drops, avalanches, text_is) = so_far.rows in
      record {
        pile = is;
        stable = rw more.same_graph told_by.0;
        game = next_game _ more;
        rows = (
          told ++ (get_or ds i (0, 0), a) ∷ [],
          rw (take_more ds i (0, 0) inside, ← drops) (map-append _ told _),
          told_more _ _ told _ (get_or ds i (0, 0), a) _ avalanches (rw so_far.game.same_graph at told_by.1),
          rw text_is (flat_map_more row_text (rows_text []) told (get_or ds i (0, 0), a)),
        );
      }

-- a row is short
pub row_short : (d : ℕ × ℕ) (a : Avalanche) → d.0 < 2 ^ 64 → d.1 < 2 ^ 64 → a.size < 2 ^ 64 → a.extent < 2 ^ 64
    → a.lost < 2 ^ 64 → length (row_text (d, a)) ≤ 128
row_short d a vertex count size extent lost =
    let short : (n : ℕ) → n < 2 ^ 64 → length (decimal n) ≤ 20 = (λ n l. length-decimal-le 20 n (omega arith) (omega arith) l) in
    let a0 = short d.0 vertex in let a1 = short d.1 count in let a2 = short a.size size in
    let a3 = short a.extent extent in let a4 = short a.lost lost in
    simp length-append (omega arith)

-- nothing was written yet
pub out_none : (old : Option (List ℕ)) (pending : List ℕ) (written : ℕ) (all : List ℕ) → pending ≡ all → written ≡ 0
    → length all ≤ most_held → IsOut old old pending written all
out_none old pending written all same none few = rw (same, none) (record {
  counted = (let a : 0 + length all ≡ length all = omega arith in a);
  held = few;
  went = Appends-nil old;
  rest = refl;
})

module _ (old now : Option (List ℕ)) (pending : List ℕ) (written : ℕ) (all : List ℕ)
    (is : IsOut old now pending written all) where
  -- more bytes come, and are not too many
  pub out_put : (more : List ℕ) → length pending + length more ≤ most_held
      → IsOut old now (pending ++ more) written (all ++ more)
  out_put more few = record {
    counted = (let a = length-append all more in let b = length-append pending more in omega arith);
    held = (let b = length-append pending more in omega arith);
    went = rw (take-append-le written all more (omega arith)) is.went;
    rest = drop-append-le written all more (omega arith) ∙ ap (λ (l : List ℕ). l ++ more) is.rest;
  }

  -- the pending ones are written
  pub out_all : (now' : Option (List ℕ)) (written' : ℕ) → Appends now now' pending → written' ≡ written + length pending
      → IsOut old now' [] written' all
  out_all now' written' went counted =
      let full : length all ≤ written' = omega arith in record {
        counted = omega arith;
        held = omega arith;
        went = rw (take_all written' all full, ← take-append-drop written all, is.rest)
            (Appends-trans old now now' _ _ is.went went);
        rest = drop_all written' all full;
      }

  -- only a prefix of them is
  pub out_part : (now' : Option (List ℕ)) (n : ℕ) → n < length pending → Appends now now' (take n pending)
      → ((written + n < length all) × Appends old now' (take (written + n) all))
      × (length all ≤ written + n + most_held)
  out_part now' n l went =
      ((omega arith, rw (take-add written n all, is.rest) (Appends-trans old now now' _ _ is.went went)), omega arith)

  -- none is pending
  pub out_end : pending ≡ [] → Appends old now all
  out_end none = rw (take_all written all (let a = ap length none in omega arith)) at is.went
