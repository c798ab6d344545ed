use Rattle.chip_actor.proofs.Names.{refl, ◌≡◌, ◌≤◌, length, sym, ap, subst, arith, Actor, is_passive_now, Moves}
use Rattle.chip_actor.proofs.MediumLemmas.{moves_none, moves_on, meets_after, then_over}
use Rattle.chip_actor.proofs.TurnOverLemmas.{acks_end}
use Rattle.chip_actor.proofs.LoopLemmas.{FoundIn, in_in_books, ack_asks, ack_past, ack_moves}
use Rattle.chip_actor.proofs.actor.ActorState.ack_all.Goals.{After-edge-edge, After-may_ack_at-count}
use Rattle.chip_actor.proofs.actor.ActorState.ack_all.Given.{Over}
use Rattle.chip_detect.specs.Acknowledging as detector
use Rattle.chip_part.specs.declared.cursor.Cursor.TheVariants as At
use Rattle.chip_actor.proofs.actor.ActorState.ack_all.Goals as goal

pub loop-index-init : goal.loop-index-init
loop-index-init g c = record {
  few = omega arith;
  moved = rw (ap (λ (a : Actor). a.detect) c.self.view_is) moves_none;
}

-- the end that the loop found, of the actor as the loop has it
found : (g : Over) (c : After-edge-edge g) → FoundIn (record c.args.self.now { detect = c.loop-index.detect })
    (record { edges = c.self.inside.ins.edges; ends = c.ends-end-items.result.now }) c.loop-index.index
    c.edge-edge.result c.end-item.result
found g c =
    let m = meets_after c.requires.meets c.loop-index.invariant.moved in record {
      stands = (m.0, m.2, m.4);
      same = rw (c.ends-end-items.ensures.ends, ← c.self.view_is) refl;
      apart = c.ends-end-items.ensures.apart;
      below = c.loop-index-test.true;
      was = c.end-item.is;
      tells = c.edge-edge.ensures;
    }

pub may_ack_at-count-requires : goal.may_ack_at-count-requires
may_ack_at-count-requires g c = in_in_books (found g (goal.at.may_ack_at-count-requires g c).After-edge-edge)

-- the count is what the books allow there
allowed : (g : Over) (c : After-may_ack_at-count g)
    → c.may_ack_at-count.result ≡ detector.may_ack c.loop-index.detect c.edge-edge.result
    (is_passive_now c.args.self.now)
allowed g c = rw (c.may_ack_at-count.ensures, c.requires.passive) refl

pub loop-index-preserved-then-count-eq0 : goal.loop-index-preserved-then-count-eq0
loop-index-preserved-then-count-eq0 g c =
    let at = goal.at.loop-index-preserved-then-count-eq0 g c in record {
      few = omega arith;
      moved = then_over c.loop-index.invariant.moved
          (ack_past (found g at.After-edge-edge) (allowed g at.After-may_ack_at-count) c.if-count-eq0.true);
    }

pub ack-seen-requires : goal.ack-seen-requires
ack-seen-requires g c =
    let at = goal.at.ack-seen-requires g c in
    ack_asks (found g at.After-edge-edge) (allowed g at.After-may_ack_at-count) c.if-count-eq0.false
    (meets_after c.requires.meets c.loop-index.invariant.moved)

pub acked_at-requires-clause-slot : goal.acked_at-requires-clause-slot
acked_at-requires-clause-slot g c = in_in_books (found g (goal.at.acked_at-requires-clause-slot g c).After-edge-edge)

pub loop-index-preserved : goal.loop-index-preserved
loop-index-preserved g c =
    let at = goal.at.loop-index-preserved g c in record {
      few = omega arith;
      moved = moves_on c.loop-index.invariant.moved
          (ack_moves (found g at.After-edge-edge) (allowed g at.After-may_ack_at-count) c.if-count-eq0.false
          c.ack-seen.ensures c.acked_at.ensures.acknowledges c.acked_at.ensures.sound);
    }

pub returns-clause-moves : goal.returns-clause-moves
returns-clause-moves g c =
    let over : length c.args.self.now.ins.edges ≤ c.loop-index.index =
    rw (← c.self.view_is) (omega (arith, c.ends-end-items.ensures.apart.one_each)) in
    subst
    (λ (a : Actor). Moves (g.M.Medium.holds c.args.medium.now) c.args.self.now (At.Ack 0)
    (g.M.Medium.holds c.loop-index.medium) (record a { detect = c.loop-index.detect }) At.Parent c.loop-index.work)
    (sym c.self.view_is) (then_over c.loop-index.invariant.moved (acks_end over))
