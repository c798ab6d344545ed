use Rattle.chip_core.proofs.Names.{refl}
use Rattle.chip_core.proofs.WorkedLemmas.{three_stretches, five_stretches, batches_ask, three_steps, triangle_plays}
use Rattle.chip_core.proofs.laws.worked_closing.Goals as goal

pub returns : goal.returns
returns c = record {
  bounds = (refl, refl, refl);
  refused = (refl, refl);
  stretches = three_stretches;
  premise = five_stretches;
  batches = batches_ask;
  no_waste = three_steps;
  plays = triangle_plays;
}
