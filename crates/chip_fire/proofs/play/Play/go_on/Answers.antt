use Rattle.chip_fire.proofs.VisitsLemmas.{goes_after}
use Rattle.chip_fire.proofs.play.Play.go_on.Goals as goal

pub returns-in_default-clause-round : goal.returns-in_default-clause-round
returns-in_default-clause-round g c =
    let stays = c.steps-course.ensures in
    goes_after _ _ _ _ _ _ stays.rises (rw stays.same at c.last_rounds-in_default.ensures.round)
