use Rattle.std.proofs.Common.{Option, sym, subst}
use Rattle.chip_library.specs.KeptGames.{KeptGame, Rows, DropsEach}
use Rattle.chip_handle.specs.Handles.{DropsOn}
use Rattle.chip_handle.proofs.calls.drops_on.Goals as goal

pub returns : goal.returns
returns c =
    let old : KeptGame = c.in-Some.boxed.value in
    let before : Rows =
    record { sizes = c.args.sizes.now; extents = c.args.extents.now; losts = c.args.losts.now } in
    let after : Rows =
    record { sizes = c.drop_each-told.new.sizes; extents = c.drop_each-told.new.extents; losts = c.drop_each-told.new.losts } in
    let post : DropsEach old c.drop_each-told.new.self c.args.at.now c.args.amounts.now before after c.drop_each-told.result =
    rw c.deref_mut-kept.ensures.value at c.drop_each-told.ensures in
    subst (λ (o : Option KeptGame). DropsOn o c.of.result.raw.value c.args.at.now c.args.amounts.now before after
    c.drop_each-told.result) (sym c.in-Some.ensures.taken) (c.drop_each-told.new.self, c.of.ensures, post)
