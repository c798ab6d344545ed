use Rattle.chip_crew.proofs.Names.{arith, rules}
use Rattle.chip_crew.proofs.DealingLemmas.{few_ends}
use Rattle.chip_crew.proofs.dealing.ends_at.Goals as goal

pub returns-clause-few : goal.returns-clause-few
returns-clause-few c = search (rules, arith, few_ends c.args.graph.now c.args.vertex c.requires.few_edges)
