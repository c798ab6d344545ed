use Rattle.std.proofs.Common.{◌≡◌, [], true, length, refl, sym, ◌∙◌, arith, inl, inr}
use Rattle.std.proofs.lemmas.List.{take_all}
use Rattle.chip_command.proofs.CommandLemmas.{handed_on}
use Rattle.chip_engine.specs.DropRows.{rows_text}
use Rattle.chip_report.specs.ReportText.{is_closed}
use Rattle.chip_engine.proofs.DropLemmas.{tells, comes_to}
use Rattle.chip_engine.proofs.StageLemmas.{none_legal}
use Rattle.chip_engine.proofs.avalanches.play_drops.Goals as goal

pub returns-in_err-write_all_of : goal.returns-in_err-write_all_of
returns-in_err-write_all_of g c = rw (handed_on _ c.from_residual.ensures.1)
    (inr (inl (_, refl, rw c.as_bytes.ensures.value at c.in_err-write_all_of.ensures)))

pub returns-then-not-is_closed : goal.returns-then-not-is_closed
returns-then-not-is_closed g c =
    let halted = sym c.is_closed.ensures ∙ c.if-not-is_closed.true in
    let went = rw c.as_bytes.ensures.value at c.in_ok-write_all_of.ensures in
    (rows_text [], c.args.game, inr (inr (refl, refl, halted)), c.requires.played, went)

pub write_rows-pile-requires-clause-stable : goal.write_rows-pile-requires-clause-stable
write_rows-pile-requires-clause-stable g c =
    let closed : is_closed c.args.rest ≡ true = sym c.is_closed.ensures ∙ c.if-not-is_closed.false in
    rw (c.in_ok-pile.ensures.game, c.in_ok-pile.ensures.chips) (none_legal _ _ c.requires.played closed)

pub returns-in_err-outcome-in-Ok : goal.returns-in_err-outcome-in-Ok
returns-in_err-outcome-in-Ok g c =
    let (n, text, left, leaves, ends, went) = rw c.in-Ok.is at c.write_rows-pile.ensures in
    let told = tells _ _ c.requires.played _ c.in_ok-pile.ensures.game c.in_ok-pile.ensures.chips _ left text leaves in
    rw (handed_on _ c.from_residual-in_err-outcome-in-Ok.ensures.1)
    (inr (inr (n, text, told, (length text, rw (take_all (length text) text (omega arith)) went, omega arith))))

pub returns-in_ok-outcome-in-Ok : goal.returns-in_ok-outcome-in-Ok
returns-in_ok-outcome-in-Ok g c =
    let (n, text, left, leaves, ends, went) = rw c.in-Ok.is at c.write_rows-pile.ensures in
    let played = c.in_ok-outcome-in-Ok.ensures.played in
    let comes = comes_to _ _ c.requires.played _ c.in_ok-pile.ensures.game c.in_ok-pile.ensures.chips _ n text left _ _
    leaves ends _ played in
    (text, c.write_rows-pile.result.0.game, comes, played, went)

pub returns-in-Err : goal.returns-in-Err
returns-in-Err g c =
    let (n, text, left, leaves, drops, fails) = rw c.in-Err.is at c.write_rows-pile.ensures in
    let told = tells _ _ c.requires.played _ c.in_ok-pile.ensures.game c.in_ok-pile.ensures.chips _ left text leaves in
    inr (inr (n, text, told, fails))
