use Rattle.chip_flooding.proofs.Names.{arith, rules, nat_tests}
use Rattle.chip_flooding.proofs.process.opening.Goals as goal

pub returns : goal.returns
returns c = let all_ins = rw (c.deref.ensures.value, c.requires.both_ends) at c.in_ok-ins.ensures.all in
    let all_outs = rw c.deref-2.ensures.value at c.in_ok-outs.ensures.all in
    let fresh = rw (c.deref-3.ensures.value, c.deref-4.ensures.value) at c.in_ok-new.ensures.fresh in
    search (rules, arith, nat_tests)
