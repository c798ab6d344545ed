use Rattle.chip_actor.proofs.Names.{refl, ◌≡◌, ◌∙◌, ◌≤◌, length, set, Option, None, Some, ap, arith, Message}
use Rattle.chip_actor.proofs.Names.{HeadState, head_cell, head_after_take, message_taken, with_items, in_ends_of, Actor}
use Rattle.chip_actor.proofs.Names.{with_taken, Meets}
use Rattle.chip_actor.proofs.EndLemmas.{filled, named_apart, same_numbers, take_keeps}
use Rattle.chip_actor.proofs.MediumLemmas.{moves_none, moves_on, meets_after, then_over}
use Rattle.chip_actor.proofs.TurnOverLemmas.{takes_end}
use Rattle.chip_actor.proofs.LoopLemmas.{FoundIn, in_in_books, take_asks, take_few, take_nothing, take_fits, take_moves}
use Rattle.chip_actor.proofs.ends.ins.Ins.take_all.Goals.{At-loop-index, After-cell-cell, After-taken}
use Rattle.chip_actor.proofs.ends.ins.Ins.take_all.Given.{Over}
use Rattle.chip_part.specs.declared.cursor.Cursor.TheVariants as At
use Rattle.chip_actor.proofs.ends.ins.Ins.take_all.Goals as goal

pub loop-index-init : goal.loop-index-init
loop-index-init g c = record {
  few = omega arith;
  numbers = rw (c.deref_mut-end-items.ensures.value, ← c.self.view_is) refl;
  moved = λ a h. rw (c.deref_mut-end-items.ensures.value, ← c.self.view_is) moves_none;
}

-- the end that the loop found, of an actor as the loop has it
found : (g : Over) (c : After-cell-cell g) (a : Actor) → Meets (g.M.Medium.holds c.args.medium.now)
    (with_taken a c.args.self.now c.args.chips.now c.args.detect.now) (At.Take 0)
    → FoundIn (with_taken a (record { edges = c.args.self.now.edges; ends = c.loop-index.end-items }) c.loop-index.chips
    c.loop-index.detect) (record { edges = (in_ends_of c.self.inside.ends.items).edges; ends = c.loop-index.end-items })
    c.loop-index.index c.edge-edge.result c.end-item.result
found g c a h =
    let m = meets_after h (c.loop-index.invariant.moved a h) in record {
      stands = (m.0, m.2, m.4);
      same = rw (← c.self.view_is) refl;
      apart = record {
        ascending = c.self.invariant.ascending;
        one_each = rw (c.loop-index.auto.end-items, c.deref_mut-end-items.ensures.value) c.self.invariant.one_each;
      };
      below = (omega arith);
      was = c.end-item.is;
      tells = cc;
    }

at_cell : (g : Over) (c : After-cell-cell g) → c.cell-cell.result ≡ head_cell c.end-item.result
at_cell g c = cc

-- the end after a take, which keeps its number, and the message that was found
left : (g : Over) (c : After-taken g) → c.taken.new.self ≡ head_after_take c.take-seen.result c.end-item.result
left g c = cc

kept : (g : Over) (c : After-taken g)
    → (in_ends_of (set c.loop-index.end-items c.loop-index.index c.taken.new.self)).edges ≡ c.args.self.now.edges
kept g c = same_numbers (λ (h : HeadState). h.edge) c.loop-index.end-items c.loop-index.index c.end-item.result
    c.taken.new.self (omega arith)
    c.end-item.is (rw (left g c) (take_keeps c.take-seen.result c.end-item.result)) ∙ c.loop-index.invariant.numbers

told : (g : Over) (c : After-taken g) (o : Option Message) → c.taken.result ≡ o
    → o ≡ message_taken c.take-seen.result c.end-item.result
told g c o is = cc

pub take-seen-requires : goal.take-seen-requires
take-seen-requires g c =
    let at = goal.at.take-seen-requires g c in
    let h = c.requires.1 in
    take_asks (found g at.After-cell-cell c.requires.0 h) (at_cell g at.After-cell-cell)
    (meets_after h (c.loop-index.invariant.moved c.requires.0 h))

pub taken-requires : goal.taken-requires
taken-requires g c =
    let at = goal.at.taken-requires g c in
    let h = c.requires.1 in
    rw c.end-item.is at (take_few (found g at.After-cell-cell c.requires.0 h) (at_cell g at.After-cell-cell)
    (meets_after h (c.loop-index.invariant.moved c.requires.0 h)) c.take-seen.ensures)

pub loop-index-preserved-in_default : goal.loop-index-preserved-in_default
loop-index-preserved-in_default g c =
    let at = goal.at.loop-index-preserved-in_default g c in record {
      few = omega arith;
      numbers = kept g at.After-taken;
      moved = λ a h. then_over (c.loop-index.invariant.moved a h)
          (take_nothing (found g at.After-cell-cell a h) (at_cell g at.After-cell-cell) c.take-seen.ensures
          (left g at.After-taken) (told g at.After-taken None c.in_default.is));
    }

pub overflow_add-chips : goal.overflow_add-chips
overflow_add-chips g c =
    let at = goal.at.overflow_add-chips g c in
    let h = c.requires.1 in
    let fits = (take_fits (found g at.After-cell-cell c.requires.0 h) (at_cell g at.After-cell-cell)
    (meets_after h (c.loop-index.invariant.moved c.requires.0 h)) c.take-seen.ensures
    (told g at.After-taken (Some c.in-Some._message) c.in-Some.is)).0 in
    omega arith

pub got_at-requires-clause-slot : goal.got_at-requires-clause-slot
got_at-requires-clause-slot g c =
    in_in_books (found g (goal.at.got_at-requires-clause-slot g c).After-cell-cell c.requires.0 c.requires.1)

pub got_at-requires-clause-room : goal.got_at-requires-clause-room
got_at-requires-clause-room g c =
    let at = goal.at.got_at-requires-clause-room g c in
    let h = c.requires.1 in
    (take_fits (found g at.After-cell-cell c.requires.0 h) (at_cell g at.After-cell-cell)
    (meets_after h (c.loop-index.invariant.moved c.requires.0 h)) c.take-seen.ensures
    (told g at.After-taken (Some c.in-Some._message) c.in-Some.is)).1

pub loop-index-preserved : goal.loop-index-preserved
loop-index-preserved g c =
    let at = goal.at.loop-index-preserved g c in record {
      few = omega arith;
      numbers = kept g at.After-taken;
      moved = λ a h. moves_on (c.loop-index.invariant.moved a h)
          (take_moves (found g at.After-cell-cell a h) (at_cell g at.After-cell-cell) c.take-seen.ensures
          (left g at.After-taken) (told g at.After-taken (Some c.in-Some._message) c.in-Some.is) c.got_at.ensures.gets
          c.got_at.ensures.sound);
    }

-- the ends as they are written back
items_are : (g : Over) (c : At-loop-index g) → (with_items c.self.inside.ends c.loop-index.end-items).items
    ≡ c.loop-index.end-items
items_are g c = filled c.self.inside.ends.len c.loop-index.end-items _
    (omega (arith, ap length c.deref_mut-end-items.ensures.value))

pub invariant_of-self : goal.invariant_of-self
invariant_of-self g c = rw (items_are g (goal.at.invariant_of-self g c).At-loop-index) (named_apart
    (λ (h : HeadState). h.edge) c.loop-index.end-items (in_ends_of c.self.inside.ends.items).edges
    (rw (← c.self.view_is) at c.loop-index.invariant.numbers) c.self.invariant.ascending)

pub returns-clause-moves : goal.returns-clause-moves
returns-clause-moves g c =
    let over : length c.args.self.now.edges ≤ c.loop-index.index =
    rw (← c.self.view_is) (omega (arith, ap length c.deref_mut-end-items.ensures.value)) in
    λ a h. rw (items_are g (goal.at.returns-clause-moves g c).At-loop-index, c.loop-index.invariant.numbers)
    (then_over (c.loop-index.invariant.moved a h) (takes_end over))
