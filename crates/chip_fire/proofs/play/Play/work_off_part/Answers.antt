use Rattle.chip_fire.proofs.ListedLemmas.{list_ends}
use Rattle.chip_fire.proofs.play.Play.work_off_part.Goals as goal

pub after_list-requires : goal.after_list-requires
after_list-requires c =
    let listed = c.work_off_few-listing.ensures in list_ends _ _ _ _ _ _ _ _ _ listed.same listed.works
