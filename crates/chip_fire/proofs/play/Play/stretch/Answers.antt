use Rattle.chip_fire.proofs.ListedLemmas.{rests}
use Rattle.chip_fire.proofs.VisitsLemmas.{goes_after}
use Rattle.chip_fire.proofs.play.Play.stretch.Goals as goal

pub tell_end-requires : goal.tell_end-requires
tell_end-requires g c = rw c.work_off_few.ensures.same (rests c.args.self.now.game _ _ (rw c.in-Ok-Ends.field-0-is at c.in-Ok-Ends.ensures.works))

pub returns-clause-round : goal.returns-clause-round
returns-clause-round g c =
    goes_after _ _ _ _ _ _ c.work_off_few.ensures.rises (rw c.work_off_few.ensures.same at c.rounds.ensures.round)
