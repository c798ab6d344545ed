use Rattle.std.proofs.Common.{refl, inl, inr}
use Rattle.chip_command.proofs.CommandLemmas.{handed_on}
use Rattle.chip_command.proofs.InputLemmas.{Keeps-same}
use Rattle.chip_engine.proofs.avalanches.avalanches_engine_with.Goals as goal

pub returns-in_err-game : goal.returns-in_err-game
returns-in_err-game g c = rw (handed_on _ c.from_residual.ensures.1)
    (inl (inl c.in_err-game.ensures, Keeps-same (g.W.Write.contents c.args.output.now), refl))

pub returns-in_err-drops : goal.returns-in_err-drops
returns-in_err-drops g c =
    let kept = Keeps-same (g.W.Write.contents c.args.output.now) in
    rw (handed_on _ c.from_residual-in_err-drops.ensures.1)
    (inl (inr (_, c.in_ok-game.ensures, c.in_err-drops.ensures), kept, refl))

pub returns-in_err-rest : goal.returns-in_err-rest
returns-in_err-rest g c =
    let none = inr (inl (refl, Keeps-same (g.W.Write.contents c.args.output.now)), refl) in
    rw (handed_on _ c.from_residual-in_err-rest.ensures.1)
    (inr (_, c.in_ok-game.ensures, _, c.in_ok-drops.ensures, none))

pub returns-in_err-outcome : goal.returns-in_err-outcome
returns-in_err-outcome g c =
    let played = rw c.deref.ensures.value at c.in_err-outcome.ensures in
    rw (handed_on _ c.from_residual-in_err-outcome.ensures.1)
    (inr (_, c.in_ok-game.ensures, _, c.in_ok-drops.ensures, inr (played, refl)))

pub returns : goal.returns
returns g c =
    let played = rw c.deref.ensures.value at c.in_ok-outcome.ensures in
    inr (_, c.in_ok-game.ensures, _, c.in_ok-drops.ensures, inl (_, played, c.write_report.ensures))
