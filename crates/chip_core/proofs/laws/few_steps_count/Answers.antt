use Rattle.chip_core.proofs.WorkLemmas.{few_steps, distances_bound, few_refusals}
use Rattle.chip_core.proofs.laws.few_steps_count.Goals as goal

pub returns : goal.returns
returns c = record { steps = few_steps; distances = distances_bound; refusals = few_refusals }
