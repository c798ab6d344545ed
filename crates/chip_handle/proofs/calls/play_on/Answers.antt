use Rattle.std.proofs.Common.{Bool, Option, Result, sym, subst}
use Rattle.chip_library.specs.declared.fault.CallFault.{CallFault}
use Rattle.chip_library.specs.KeptGames.{KeptGame, PlaysSome}
use Rattle.chip_handle.specs.Handles.{OnPile}
use Rattle.chip_handle.proofs.calls.play_on.Goals as goal

pub returns : goal.returns
returns c =
    let old : KeptGame = c.in-Some.boxed.value in
    let post : PlaysSome old c.replace_with-told.new.dest c.args.visits c.replace_with-told.result =
    rw c.deref_mut-kept.ensures.value at c.replace_with-told.ensures in
    subst (λ (o : Option KeptGame). OnPile (λ (k k' : KeptGame) (told : Result Bool CallFault).
    PlaysSome k k' c.args.visits told) o c.of.result.raw.value c.replace_with-told.result)
    (sym c.in-Some.ensures.taken) (c.replace_with-told.new.dest, c.of.ensures, post)
