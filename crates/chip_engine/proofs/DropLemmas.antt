-- Serves AvalanchesCommand.antt.
-- Drops that a file names, and the result of playing them.
use Rattle.std.proofs.Common.{◌≡◌, ℕ, ◌<◌, Bool, true, false, not, ◌&&◌, eqb, leb, List, [], ◌∷◌, length, map, take}
use Rattle.std.proofs.Common.{slice_index, None, Some, All, refl, sym, ◌∙◌, subst, arith, inl, inr}
use Rattle.std.proofs.lemmas.Bool.{false_from_ne_true}
use Rattle.std.proofs.lemmas.List.Elements.{All-nil, All-cons}
use Rattle.chip_graph.proofs.PickLemmas.{picked_none}
use Rattle.chip_graph.specs.ChipGame.{ChipGame}
use Rattle.chip_graph.specs.More.{HasMore}
use Rattle.chip_graph.specs.Multigraph.{degree}
use Rattle.chip_file.specs.DropsText.{drop_in, drops_of_text, drops_text_fault}
use Rattle.chip_file.specs.Rows.{Row, by_index, first_row_fault}
use Rattle.chip_file.specs.VertexRows.{vertex_row_fault}
use Rattle.chip_file.proofs.VertexRowLemmas.{names_vertex}
use Rattle.chip_sequence.specs.Play.{IsPlayed}
use Rattle.chip_sequence.specs.declared.outcome.Outcome.{Outcome}
use Rattle.chip_sequence.specs.Sequence.{position_after}
use Rattle.chip_sequence.proofs.CertificateLemmas.{end_of_the_way}
use Rattle.chip_sequence.proofs.EndLemmas.{continued}
use Rattle.chip_sequence.proofs.LegalLemmas.{legal_of_test}
use Rattle.chip_engine.proofs.StageLemmas.{none_legal}
use Rattle.chip_fire.specs.declared.pile.Pile.{Pile}
use Rattle.chip_fire.specs.Pile.{IsPile}
use Rattle.chip_sequence.specs.Firing.{IsStable}
use Rattle.chip_engine.specs.DropRows.{LeavesRows, EndsAt}
use Rattle.chip_report.specs.ReportText.{is_closed}
use Rattle.chip_command.proofs.InputLemmas.{none_parts}
use Rattle.chip_command.proofs.OneReportLemmas.{one_more}
use Rattle.chip_command.proofs.RoundTripLemmas.{given}
use Rattle.chip_engine.specs.AvalanchesCommand.{Closes, TellsDrops, DropsComeTo}

rows_vertices : (n : ℕ) (before rows : List Row) → first_row_fault (by_index (vertex_row_fault n)) before rows ≡ None
    → All (λ (d : ℕ × ℕ). d.0 < n) (map drop_in rows)
rows_vertices n before [] is = All-nil _
rows_vertices n before (row ∷ rows) is =
    let both = none_parts (vertex_row_fault n (length before) row) _ is in
    All-cons (λ (d : ℕ × ℕ). d.0 < n) (drop_in row) _ (names_vertex n _ row both.0) (rows_vertices n _ rows both.1)

-- drops that a text means are on vertices
pub drops_vertices : (n : ℕ) (text : List ℕ) (ds : List (ℕ × ℕ)) → drops_of_text n text ≡ Some ds
    → All (λ (d : ℕ × ℕ). d.0 < n) ds
drops_vertices n text ds is =
    let both = given (drops_text_fault n text) _ ds is in
    subst (All (λ (d : ℕ × ℕ). d.0 < n)) both.1 (rows_vertices n [] _ (none_parts _ _ both.0).1)

-- the play of a pile on which a vertex is legal was stopped
stopped_open : (p : Pile) → IsPile p → (IsStable p.game.graph (slice_index p.chips.items) → ⊥) → (o : Outcome)
    → IsPlayed p.game o → is_closed o ≡ false
stopped_open p pile legal o played =
    let (vs, whole) = played.ends in
    let end = end_of_the_way _ _ _ _ _ pile.begun.on_the_way pile.at_rest vs whole in
    let same : slice_index o.chips.items ≡ slice_index p.chips.items =
    (λ i v. (played.position vs whole v ∙ sym (end.1 v)) i) in
    false_from_ne_true _ (λ closed. legal (subst (IsStable p.game.graph) same (none_legal p.game o played closed)))

-- an outcome is closed if the limit does not stop the play
pub closes : (g : ChipGame) (ds : List (ℕ × ℕ)) (g' : ChipGame) (o : Outcome) → HasMore g ds g' → IsPlayed g' o
    → Closes g ds → is_closed o ≡ true
closes g ds g' o more played (h, also, (vs, whole, ended)) =
    let same = one_more g ds h g' also more in
    let there : slice_index o.chips.items ≡ position_after g'.graph (slice_index g'.start) vs =
    (λ i v. played.position vs (rw same at whole) v i) in
    let stable = subst (IsStable g'.graph) (sym there) (rw same at ended) in
    let none = picked_none (λ v. not (eqb v g'.graph.sink) && leb (degree g'.graph v) (slice_index o.chips.items v))
    g'.graph.vertices (λ v l on. stable v (legal_of_test g'.graph (slice_index o.chips.items) v l on)) in
    rw (played.over ∙ none, played.sealed) refl

-- the rows of drops on a pile that is the game at rest
module _ (g : ChipGame) (o : Outcome) (played : IsPlayed g o) (p : Pile) (game : p.game ≡ g)
    (chips : p.chips.items ≡ o.chips.items) where
  pub tells : (ds : List (ℕ × ℕ)) (p' : Pile) (text : List ℕ) → LeavesRows p ds p' text → TellsDrops g ds text
  tells ds p' text leaves =
      let (vs, whole) = continued p'.game.graph (slice_index p'.game.start) p'.game.limit [] tt (λ v. omega arith) in
      let end = end_of_the_way _ _ _ _ _ leaves.pile.begun.on_the_way leaves.pile.at_rest vs whole in
      let there : slice_index p'.chips.items ≡ position_after p'.game.graph (slice_index p'.game.start) vs =
      (λ i v. end.1 v i) in (
        (p'.game, rw game at leaves.game, (vs, whole, subst (IsStable p'.game.graph) there leaves.stable)),
        o,
        played,
        _,
        rw (game, chips) at leaves.rows,
      )

  pub comes_to : (ds : List (ℕ × ℕ)) (n : ℕ) (text : List ℕ) (left p' : Pile) (all : Bool)
      → LeavesRows p (take n ds) left text → EndsAt p ds n left p' all
      → (end : Outcome) → IsPlayed p'.game end → DropsComeTo g ds text p'.game end
  comes_to ds n text left p' true leaves (whole, same) end is =
      let rows = rw whole at leaves in inl (tells ds left text rows, rw (same, ← game) rows.game)
  comes_to ds n text left p' false leaves (inside, pile, more, legal) end is =
      inr (inl (n, inside, tells _ left text leaves, rw game at more, stopped_open p' pile legal end is))
