-- Serves Rows.antt.
-- The rows of drops, by the exit status.
use Rattle.std.proofs.Common.{◌≡◌, ℕ, true, false, List, [], refl, sym, ◌∙◌, subst, rules, inl, inr}
use Rattle.chip_graph.specs.ChipGame.{ChipGame}
use Rattle.chip_graph.specs.More.{HasMore}
use Rattle.chip_sequence.specs.Play.{IsPlayed}
use Rattle.chip_sequence.specs.declared.outcome.Outcome.{Outcome}
use Rattle.chip_report.specs.ReportText.{is_closed}
use Rattle.chip_command.specs.Reports.{plain_status}
use Rattle.chip_engine.proofs.DropLemmas.{closes}
use Rattle.chip_engine.specs.AvalanchesCommand.{Closes, DropsComeTo}
use Rattle.examples.specs.Rows.{AreRowsBy}

-- the limit stops a play whose outcome is not closed
stopped : (g : ChipGame) (ds : List (ℕ × ℕ)) (g' : ChipGame) (o : Outcome) → HasMore g ds g' → IsPlayed g' o
    → is_closed o ≡ false → Closes g ds → ⊥
stopped g ds g' o more played open_yet closing = let closed = closes g ds g' o more played closing in cc

done : (o : Outcome) → is_closed o ≡ true → plain_status o ≡ 0
done o closed = rw closed refl

halted : (o : Outcome) → is_closed o ≡ false → plain_status o ≡ 2
halted o open_yet = rw open_yet refl

-- the rows of drops, by the status of the outcome
pub rows_by : (g : ChipGame) (ds : List (ℕ × ℕ)) (text : List ℕ) (g' : ChipGame) (o : Outcome) (status : ℕ)
    → IsPlayed g' o → status ≡ plain_status o → DropsComeTo g ds text g' o → AreRowsBy g ds text status
rows_by g ds text g' o status played is (inl (tells, more)) =
    inl (is ∙ done o (closes g ds g' o more played tells.0), tells)
rows_by g ds text g' o status played is (inr (inl (n, inside, tells, more, open_yet))) =
    inr (inl (is ∙ halted o open_yet, n, inside, tells, stopped g _ g' o more played open_yet))
rows_by g ds text g' o status played is (inr (inr (head, same, open_yet))) =
    inr (inr (
      is ∙ halted o open_yet,
      head,
      stopped g [] g' o
          (subst (HasMore g []) (sym same) (search rules)) played open_yet,
    ))
