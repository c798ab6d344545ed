use Rattle.chip_library.proofs.SumsLemmas.{settled_noted_in_sums, settled_refused_in_sums}
use Rattle.chip_library.proofs.sums.SummedBooks.settled.Goals as goal

pub returns-in-Ok-clause-settles : goal.returns-in-Ok-clause-settles
returns-in-Ok-clause-settles c = settled_noted_in_sums c.args.self.now.ins.now c.args.self.now.outs.now _
    c.args.self.now.parent c.args.self.now.owed c.args.self.now.deficit c.args.edge c.args.word c.in-Ok.more
    c.in-Ok.ensures.settles

pub returns-in-Err-clause-settles : goal.returns-in-Err-clause-settles
returns-in-Err-clause-settles c = settled_refused_in_sums c.args.self.now.ins.now c.args.self.now.outs.now _
    c.args.self.now.parent c.args.self.now.owed c.args.self.now.deficit c.args.edge c.args.word c.in-Err.fault
    c.in-Err.ensures.within c.in-Err.ensures.settles
