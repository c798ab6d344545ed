use Rattle.chip_flooding.proofs.Names.{◌≡◌, [], refl, arith}
use Rattle.chip_flooding.proofs.RunLemmas.{opened}
use Rattle.chip_flooding.proofs.run.Run.new.Goals as goal

pub loop-part-preserved : goal.loop-part-preserved
loop-part-preserved c = rw c.in_ok-push.ensures.items (opened c.args.topology c.loop-part.part c.loop-part.processes.items
    c.in_ok-opening.field-0 c.loop-part.invariant c.in_ok-opening.ensures)

pub invariant_of-result : goal.invariant_of-result
invariant_of-result c = let all : c.loop-part.part ≡ c.args.topology.parts = omega arith in
    let opening = rw all at c.loop-part.invariant in record {
      topology = c.requires;
      all_processes = opening.count_is;
      log = [];
      legal = record { first = _; opens = λ p l. (opening.each p l).part; leads = refl };
    }
