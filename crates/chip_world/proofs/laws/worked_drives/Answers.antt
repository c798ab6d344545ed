use Rattle.chip_world.proofs.Names.{refl}
use Rattle.chip_world.proofs.WorkedDrives.{one_round_closes, no_round_leaves_open}
use Rattle.chip_world.proofs.laws.worked_drives.Goals as goal

pub returns-clause-triangle_root_edges : goal.returns-clause-triangle_root_edges
returns-clause-triangle_root_edges c = refl

pub returns-clause-triangle_rounds : goal.returns-clause-triangle_rounds
returns-clause-triangle_rounds c = refl

pub returns-clause-one_round_closes : goal.returns-clause-one_round_closes
returns-clause-one_round_closes c = one_round_closes

pub returns-clause-no_round_leaves_open : goal.returns-clause-no_round_leaves_open
returns-clause-no_round_leaves_open c = no_round_leaves_open
