use Rattle.chip_actor.proofs.Names.{refl, ◌∙◌, ◌≤◌, ◌<◌, length, sym, ap, subst, arith, Actor, Moves}
use Rattle.chip_actor.proofs.MediumLemmas.{moves_none, moves_on, meets_after, then_over}
use Rattle.chip_actor.proofs.TurnOverLemmas.{settles_end}
use Rattle.chip_actor.proofs.LoopLemmas.{FoundOut, out_in_books, settle_asks, settle_fits, settle_moves, settle_past}
use Rattle.chip_actor.proofs.LoopLemmas.{counts_more}
use Rattle.chip_actor.proofs.actor.ActorState.settle_all.Goals.{After-edge-edge}
use Rattle.chip_actor.proofs.actor.ActorState.settle_all.Given.{Over}
use Rattle.chip_part.specs.declared.cursor.Cursor.TheVariants as At
use Rattle.chip_actor.proofs.actor.ActorState.settle_all.Goals as goal

pub loop-index-init : goal.loop-index-init
loop-index-init g c = record {
  few = omega arith;
  moved = rw (ap (λ (a : Actor). a.detect) c.self.view_is) moves_none;
}

-- the end that the loop found, of the actor as the loop has it
found : (g : Over) (c : After-edge-edge g) → FoundOut
    (record c.args.self.now { detect = c.loop-index.detect })
    (record { edges = c.self.inside.outs.edges; ends = c.ends-out-items.result.now })
    c.loop-index.index c.edge-edge.result c.out-item.result
found g c =
    let m = meets_after c.requires c.loop-index.invariant.moved in record {
      stands = (m.0, m.2, m.4);
      same = rw (c.ends-out-items.ensures.ends, ← c.self.view_is) refl;
      apart = c.ends-out-items.ensures.apart;
      below = c.loop-index-test.true;
      was = c.out-item.is;
      tells = c.edge-edge.ensures;
    }

pub settle-seen-requires : goal.settle-seen-requires
settle-seen-requires g c = settle_asks (found g (goal.at.settle-seen-requires g c).After-edge-edge)
    (meets_after c.requires c.loop-index.invariant.moved)

pub settled_at-more-requires-clause-slot : goal.settled_at-more-requires-clause-slot
settled_at-more-requires-clause-slot g c =
    out_in_books (found g (goal.at.settled_at-more-requires-clause-slot g c).After-edge-edge)

pub settled_at-more-requires-clause-no_fewer : goal.settled_at-more-requires-clause-no_fewer
settled_at-more-requires-clause-no_fewer g c =
    (settle_fits (found g (goal.at.settled_at-more-requires-clause-no_fewer g c).After-edge-edge)
    (meets_after c.requires c.loop-index.invariant.moved) c.settle-seen.ensures).0

pub settled_at-more-requires-clause-sent : goal.settled_at-more-requires-clause-sent
settled_at-more-requires-clause-sent g c =
    (settle_fits (found g (goal.at.settled_at-more-requires-clause-sent g c).After-edge-edge)
    (meets_after c.requires c.loop-index.invariant.moved) c.settle-seen.ensures).1

pub settled_so_far-requires : goal.settled_so_far-requires
settled_so_far-requires g c = out_in_books (found g (goal.at.settled_so_far-requires g c).After-edge-edge)

pub loop-index-preserved-then-seen-settled_so_far : goal.loop-index-preserved-then-seen-settled_so_far
loop-index-preserved-then-seen-settled_so_far g c = record {
  few = omega arith;
  moved = then_over c.loop-index.invariant.moved
      (settle_past (found g (goal.at.loop-index-preserved-then-seen-settled_so_far g c).After-edge-edge)
      c.settle-seen.ensures (c.if-seen-settled_so_far.true ∙ c.settled_so_far.ensures.count)
      c.settled_so_far.ensures.sound);
}

pub loop-index-preserved : goal.loop-index-preserved
loop-index-preserved g c =
    let here = found g (goal.at.loop-index-preserved g c).After-edge-edge in
    let fits = settle_fits here (meets_after c.requires c.loop-index.invariant.moved) c.settle-seen.ensures in
    let new : 0 < c.settled_at-more.result = (let more = c.settled_at-more.ensures.more in
    let other = c.if-seen-settled_so_far.false in let so_far = c.settled_so_far.ensures.count in let le = fits.0 in
    omega arith) in
    record {
      few = omega arith;
      moved = rw (counts_more c.settled_at-more.result c.loop-index.work new)
          (moves_on c.loop-index.invariant.moved
          (settle_moves here c.settle-seen.ensures c.settled_at-more.ensures.more c.settled_at-more.ensures.settles
          c.settled_at-more.ensures.sound));
    }

pub returns-clause-moves : goal.returns-clause-moves
returns-clause-moves g c =
    let over : length c.args.self.now.outs.edges ≤ c.loop-index.index =
    rw (← c.self.view_is) (omega (arith, c.ends-out-items.ensures.apart.one_each)) in
    subst
    (λ (a : Actor). Moves (g.M.Medium.holds c.args.medium.now) c.args.self.now (At.Settle 0)
    (g.M.Medium.holds c.loop-index.medium) (record a { detect = c.loop-index.detect }) At.Fire c.loop-index.work)
    (sym c.self.view_is) (then_over c.loop-index.invariant.moved (settles_end over))
