use Rattle.chip_core.proofs.Names.{refl}
use Rattle.chip_core.proofs.WorkedLemmas as worked
use Rattle.chip_core.proofs.laws.worked_runs.Goals as goal

pub returns : goal.returns
returns c = record {
  chips_on_the_sink = (refl, refl, refl);
  full_ring = (refl, refl, refl);
  sealed_half_way = (refl, refl, refl, refl);
  engaging_message_last = refl;
  ring_of_two = (refl, refl);
  two_engaged = worked.two_engaged;
}
