use Rattle.chip_actor.proofs.Names.{◌≡◌, ◌*◌, ◌≤◌, out_ends_of, Actor, with_sent, Meets, Moves}
use Rattle.chip_part.specs.declared.cursor.Cursor.TheVariants as At
use Rattle.chip_actor.proofs.ends.outs.Outs.send_all.Given as goal

abbrev pub invariant-loop-index : goal.invariant-loop-index
invariant-loop-index g l = record {
  few : l.work ≤ 2 * l.index;
  numbers : (out_ends_of l.out-items).edges ≡ l.fn.self.edges;
  moved : (a : Actor)
      → Meets (g.M.Medium.holds l.fn.medium) (with_sent a l.fn.self l.fn.pending l.fn.refused l.fn.detect) (At.Send 0)
      → Moves (g.M.Medium.holds l.fn.medium) (with_sent a l.fn.self l.fn.pending l.fn.refused l.fn.detect) (At.Send 0)
      (g.M.Medium.holds l.medium)
      (with_sent a (record { edges = l.fn.self.edges; ends = l.out-items }) l.pending l.refused l.detect)
      (At.Send l.index) l.work;
}
