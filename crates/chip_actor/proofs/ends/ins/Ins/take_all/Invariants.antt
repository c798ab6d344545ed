use Rattle.chip_actor.proofs.Names.{◌≡◌, ◌≤◌, in_ends_of, Actor, with_taken, Meets, Moves}
use Rattle.chip_part.specs.declared.cursor.Cursor.TheVariants as At
use Rattle.chip_actor.proofs.ends.ins.Ins.take_all.Given as goal

abbrev pub invariant-loop-index : goal.invariant-loop-index
invariant-loop-index g l = record {
  few : l.work ≤ l.index;
  numbers : (in_ends_of l.end-items).edges ≡ l.fn.self.edges;
  moved : (a : Actor)
      → Meets (g.M.Medium.holds l.fn.medium) (with_taken a l.fn.self l.fn.chips l.fn.detect) (At.Take 0)
      → Moves (g.M.Medium.holds l.fn.medium) (with_taken a l.fn.self l.fn.chips l.fn.detect) (At.Take 0)
      (g.M.Medium.holds l.medium)
      (with_taken a (record { edges = l.fn.self.edges; ends = l.end-items }) l.chips l.detect) (At.Take l.index)
      l.work;
}
