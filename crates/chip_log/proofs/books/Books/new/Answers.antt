use Rattle.chip_log.proofs.Names.{arith}
use Rattle.chip_log.proofs.QueuesLemmas.{all_same}
use Rattle.chip_log.specs.declared.books.Said.TheVariants as said
use Rattle.chip_log.proofs.books.Books.new.Goals as goal

pub returns-clause-none : goal.returns-clause-none
returns-clause-none c = record {
  flight = λ s. let a = c.in_ok-new.ensures.none s in omega arith;
  keeps = record {
    taken = λ s. c.in_ok-new-2.ensures.none s;
    sent = λ s. c.in_ok-new-3.ensures.none s;
    rows = λ q. rw (c.in_ok-vec.ensures.items_if_clones_equal (λ y e. e)) (all_same c.args.sizes.processes q 0);
    said = λ q. rw (c.in_ok-vec-2.ensures.items_if_clones_equal (λ y e. e))
        (all_same c.args.sizes.processes q said.Unsaid);
  };
}
