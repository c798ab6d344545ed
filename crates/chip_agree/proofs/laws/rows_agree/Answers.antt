use Rattle.std.proofs.Common.{◌≡◌, ◌<◌, ◌↔◌, length, refl, ⊎_elim, arith}
use Rattle.chip_graph.specs.ChipGame.{ChipGame}
use Rattle.chip_fire.specs.declared.pile.Pile.{Pile}
use Rattle.chip_sequence.specs.Play.{IsPlayed}
use Rattle.chip_sequence.specs.declared.outcome.Outcome.{Outcome}
use Rattle.chip_report.specs.ReportText.{report_text}
use Rattle.chip_command.specs.Reports.{plain_status}
use Rattle.chip_command.proofs.OneReportLemmas.{same_numbers, one_report, plain_reports}
use Rattle.chip_library.specs.declared.kept.PileState.{PileState}
use Rattle.chip_library.specs.declared.kept.PileState.TheVariants.{ToPlay, Stable, Halted}
use Rattle.chip_library.specs.KeptGames.{IsKept}
use Rattle.chip_library.proofs.DropLemmas.{none_stopped, some_stopped}
use Rattle.chip_library.proofs.KeptLemmas.{piles_are_outcomes}
use Rattle.chip_agree.specs.Reported.{IsReported}
use Rattle.chip_agree.proofs.laws.rows_agree.Goals as goal

-- an outcome of a game is the one that its reports are of
reported : (g : ChipGame) (o : Outcome) → IsPlayed g o → IsReported g o
reported g o played = record {
  played = played;
  reports = λ limits graph_text chips_text report status means wrote. one_report g report (report_text o) status
      (plain_status o) (plain_reports limits graph_text chips_text g.limit report status g means wrote)
      (o, played, refl, refl);
}

-- a pile whose play has ended has an outcome of its game
ended : (p : Pile) (state : PileState) → IsKept p state → (state ≡ ToPlay → ⊥) → (o : Outcome) × IsReported p.game o
    × (p.chips.items ≡ o.chips.items) × (p.fired.items ≡ o.fired.items) × ((state ≡ Stable) ↔ (length o.over.items ≡ 0))
ended p ToPlay kept over = absurd (over refl)
ended p Stable kept over =
    let (pile, stable) = kept.stable refl in
    let (o, played, chips, fired) = piles_are_outcomes p pile in
    let none : 0 < length o.over.items → ⊥ = (λ some. some_stopped p.game o played some (rw chips at stable)) in
    (o, reported p.game o played, chips, fired, (λ is. omega arith, λ zero. refl))
ended p Halted kept over =
    let (pile, legal) = kept.halted refl in
    let (o, played, chips, fired) = piles_are_outcomes p pile in
    let some : length o.over.items ≡ 0 → ⊥ = (λ none. legal (rw chips (none_stopped p.game o played none))) in
    (o, reported p.game o played, chips, fired, (λ is. absurd (cc is), λ zero. absurd (some zero)))

pub returns-clause-rows : goal.returns-clause-rows
returns-clause-rows c lists limit guesses old new did i inside =
    let (o, played, chips, fired, stopped) = (did.2.each i inside).outcome in
    (o, reported _ o played, chips, fired, stopped)

pub returns-clause-accepted : goal.returns-clause-accepted
returns-clause-accepted c lists limit chips fired ends (claim, game, o, played, each) =
    let same = claim.ends_each in let many = claim.fired_each in let fits = game.start_fits in
    let all = played.chips_each in let counted = played.fired_each in (
      o,
      reported _ o played,
      same_numbers ends o.chips.items (omega arith) (λ v l. (each v (omega arith)).chips_is),
      same_numbers fired o.fired.items (omega arith) (λ v l. (each v l).fired_is),
    )

pub returns-clause-refused : goal.returns-clause-refused
returns-clause-refused c lists limit chips fired ends v fault = ⊎_elim (λ is. absurd (cc is.0))
    (⊎_elim (λ is. absurd is.1) (⊎_elim (λ is. absurd is.2) (⊎_elim (λ is. absurd (cc is.2))
    (λ (claim, game, o, played, u, is, differs).
    let same : u ≡ v = cc is in (o, reported _ o played, rw same at differs))))) fault

pub returns-clause-piles : goal.returns-clause-piles
returns-clause-piles c k kept over = ended k.pile k.state kept over
