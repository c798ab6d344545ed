use Rattle.std.proofs.Common.{Option, Some, ◌∙◌, ap, sym, subst}
use Rattle.chip_library.specs.KeptGames.{KeptGame}
use Rattle.chip_handle.specs.Handles.{DrawsOf}
use Rattle.chip_handle.proofs.calls.draw_on.Goals as goal

pub returns : goal.returns
returns c =
    let told = c.draw-told in
    let same = rw c.deref_mut-kept.ensures.value at told.ensures.pile in
    subst (λ (o : Option KeptGame). DrawsOf c.args.rows o c.of.result.raw.value c.args.chips.now told.new.chips told.result)
    (sym c.in-Some.ensures.taken)
    (c.of.ensures ∙ ap Some same, rw c.deref_mut-kept.ensures.value at told.ensures.drawn)
