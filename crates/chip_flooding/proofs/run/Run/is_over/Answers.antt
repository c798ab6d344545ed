use Rattle.chip_flooding.proofs.Names.{sym, ap, arith, get_or_read, Process, nobody, world}
use Rattle.chip_flooding.proofs.RunLemmas.{state_of}
use Rattle.chip_flooding.proofs.run.Run.is_over.Goals as goal

pub returns-clause-quiescent : goal.returns-clause-quiescent
returns-clause-quiescent c = rw (← c.self.view_is) (λ told. let is = c.self.invariant in
    let read = sym (get_or_read c.self.inside.processes.items _ _ (omega arith) c.index-root.ensures nobody) in
    c.is_over.ensures.over told _ is.topology.network is.log (world (state_of c.self.inside)) is.legal
    (ap (λ (s : Process). s.books) read) (ap (λ (s : Process). s.passive) read))
