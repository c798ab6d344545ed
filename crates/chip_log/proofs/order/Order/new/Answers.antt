use Rattle.chip_log.proofs.Names.{List, [], arith, length-replicate, All-nil, IsOf}
use Rattle.chip_log.proofs.Names.{FitsRow, Step}
use Rattle.chip_log.proofs.QueuesLemmas.{all_same, none_in_total}
use Rattle.chip_log.proofs.order.Order.new.Goals as goal

pub returns-clause-ready : goal.returns-clause-ready
returns-clause-ready c = record {
  processes = rw c.in_ok-new-2.ensures (length-replicate c.args.sizes.processes []);
  agenda = c.in_ok-new-3.ensures.processes;
  channels = c.in_ok-new-3.ensures.channels;
  streams = c.in_ok-new.ensures.channels;
  fits = λ p. rw (c.in_ok-new-2.ensures, all_same {X = List Step} c.args.sizes.processes p [])
      (All-nil (IsOf c.args.sizes.channels));
  done = rw c.new.ensures.items (All-nil (FitsRow c.args.sizes));
  flight = λ s. rw c.new.ensures.items (omega (arith, c.in_ok-new.ensures.none s));
  few = rw (c.new.ensures.items, c.in_ok-new-2.ensures, none_in_total c.args.sizes.processes) (omega arith);
}

pub returns-clause-total : goal.returns-clause-total
returns-clause-total c = rw c.in_ok-new-2.ensures (none_in_total c.args.sizes.processes)
