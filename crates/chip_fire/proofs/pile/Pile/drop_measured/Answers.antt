use Rattle.chip_fire.proofs.DurationLemmas.{has_lasted}
use Rattle.chip_fire.proofs.pile.Pile.drop_measured.Goals as goal

pub finish-pile-requires : goal.finish-pile-requires
finish-pile-requires c = (_, _, _, c.begin_with-begun.ensures.begun)

pub returns-in-Some : goal.returns-in-Some
returns-in-Some c =
    let begun = c.begin_with-begun.ensures.begun in
    let told = c.finish-pile.ensures.avalanche _ _ _ begun in
    let (stable, avalanche) = rw c.in-Some.is at told.1 in
    let row = rw c.in-Some.is at (c.finish-pile.ensures.row _ _ _ begun) in
    record {
      pile = c.finish-pile.ensures.pile;
      game = told.0;
      measured = (
        stable,
        avalanche,
        row,
        λ timed. has_lasted _ _ _ _ begun _ c.finish-pile.ensures.pile c.finish-pile.ensures.same_game stable _
            (c.begin_with-begun.ensures.rounds timed),
      );
    }

pub returns-in-None : goal.returns-in-None
returns-in-None c =
    let told = c.finish-pile.ensures.avalanche _ _ _ c.begin_with-begun.ensures.begun in record {
      pile = c.finish-pile.ensures.pile;
      game = told.0;
      measured = rw c.in-None.is at told.1;
    }
