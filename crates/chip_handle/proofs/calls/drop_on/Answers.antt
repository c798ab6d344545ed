use Rattle.std.proofs.Common.{Option, Result, sym, subst}
use Rattle.chip_fire.specs.declared.avalanche.Avalanche.{Avalanche}
use Rattle.chip_library.specs.declared.fault.CallFault.{CallFault}
use Rattle.chip_library.specs.KeptGames.{KeptGame, Drops}
use Rattle.chip_handle.specs.Handles.{OnPile}
use Rattle.chip_handle.proofs.calls.drop_on.Goals as goal

pub returns : goal.returns
returns c =
    let old : KeptGame = c.in-Some.boxed.value in
    let post : Drops old c.replace_with-told.new.dest c.args.vertex c.args.count c.replace_with-told.result =
    rw c.deref_mut-kept.ensures.value at c.replace_with-told.ensures in
    subst (λ (o : Option KeptGame). OnPile (λ (k k' : KeptGame) (told : Result Avalanche CallFault).
    Drops k k' c.args.vertex c.args.count told) o c.of.result.raw.value c.replace_with-told.result)
    (sym c.in-Some.ensures.taken) (c.replace_with-told.new.dest, c.of.ensures, post)
