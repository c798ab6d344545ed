use Rattle.chip_actor.proofs.Names.{◌≤◌, Moves}
use Rattle.chip_part.specs.declared.cursor.Cursor.TheVariants as At
use Rattle.chip_actor.proofs.actor.ActorState.settle_all.Given as goal

abbrev pub invariant-loop-index : goal.invariant-loop-index
invariant-loop-index g l = record {
  few : l.work ≤ l.index;
  moved : Moves (g.M.Medium.holds l.fn.medium) l.fn.self (At.Settle 0) (g.M.Medium.holds l.medium)
      (record l.fn.self { detect = l.detect }) (At.Settle l.index) l.work;
}
