use Rattle.chip_file.proofs.Names.{arith, rules, common_steps}
use Rattle.chip_file.proofs.ReadLemmas.{taken_more}
use Rattle.chip_file.proofs.whole.read_source.Goals as goal

pub returns-in_err-extend_from_slice-in-Ok-clause-whole : goal.returns-in_err-extend_from_slice-in-Ok-clause-whole
returns-in_err-extend_from_slice-in-Ok-clause-whole g c = record {
  known = grind (arith, common_steps);
  end = search rules;
  read = grind (arith, common_steps);
  taken = taken_more _ _ _ _ _ _ _ c.loop-chunk.invariant.taken c.read.ensures.bytes c.read.ensures.bound (search rules)
      (search rules);
  memory = grind (arith, common_steps);
  few = search rules;
  faults = grind (arith, common_steps);
}
