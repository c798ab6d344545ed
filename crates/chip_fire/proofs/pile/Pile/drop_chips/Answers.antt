use Rattle.chip_fire.proofs.pile.Pile.drop_chips.Goals as goal

pub finish-requires : goal.finish-requires
finish-requires c = (_, _, _, c.begin_drop.ensures)

pub returns : goal.returns
returns c =
    let told = c.finish.ensures.avalanche _ _ _ c.begin_drop.ensures in
    record { pile = c.finish.ensures.pile; game = told.0; avalanche = told.1 }
