use Rattle.chip_actor.proofs.Names.{◌≡◌, ◌∙◌, ◌≤◌, ◌<◌, List, length, get_or, set, refl, sym, ap}
use Rattle.chip_actor.proofs.Names.{arith, length-set, get_or-set_same, set-get_or, with_items, OutEnd}
use Rattle.chip_actor.proofs.Names.{OutEnds, AreApart, out_ends_of, with_end, Actor, with_sent, Meets, Moves}
use Rattle.chip_actor.proofs.EndLemmas.{filled, named_apart, out_there, same_numbers}
use Rattle.chip_actor.proofs.MediumLemmas.{moves_none, moves_on, meets_after, then_over}
use Rattle.chip_actor.proofs.TurnOverLemmas.{sends_end}
use Rattle.chip_actor.proofs.ends.outs.Outs.send_all.Goals.{At-loop-index, After-send}
use Rattle.chip_actor.proofs.ends.outs.Outs.send_all.Given.{Over}
use Rattle.chip_part.specs.declared.cursor.Cursor.TheVariants as At
use Rattle.chip_actor.proofs.ends.outs.Outs.send_all.Goals as goal

pub loop-index-init : goal.loop-index-init
loop-index-init g c = record {
  few = omega arith;
  numbers = rw (c.deref_mut-out-items.ensures.value, ← c.self.view_is) refl;
  moved = λ a h. rw (c.deref_mut-out-items.ensures.value, ← c.self.view_is) moves_none;
}

-- an actor as it was, and as the loop has it
abbrev old : (g : Over) (c : At-loop-index g) → Actor → Actor
old g c a = with_sent a c.args.self.now c.args.pending.now c.args.refused.now c.args.detect.now

abbrev ends : (g : Over) (c : At-loop-index g) → OutEnds
ends g c = record { edges = c.args.self.now.edges; ends = c.loop-index.out-items }

abbrev having : (g : Over) (c : At-loop-index g) → Actor → OutEnds → Actor
having g c a os = with_sent a os c.loop-index.pending c.loop-index.refused c.loop-index.detect

apart : (g : Over) (c : At-loop-index g) → AreApart (ends g c).edges (ends g c).ends
apart g c = rw (← c.self.view_is) record {
  ascending = c.self.invariant.ascending;
  one_each = rw (c.loop-index.auto.out-items, c.deref_mut-out-items.ensures.value) c.self.invariant.one_each;
}

within : (g : Over) (c : At-loop-index g) → c.loop-index.index < length c.deref_mut-out-items.result.now
    → c.loop-index.index < length (ends g c).edges
within g c below = omega (arith, (apart g c).one_each)

-- the move so far, to the ends with that one written back as it is
moved : (g : Over) (c : At-loop-index g) (a : Actor) (end : OutEnd)
    → Meets (g.M.Medium.holds c.args.medium.now) (old g c a) (At.Send 0)
    → Moves (g.M.Medium.holds c.args.medium.now) (old g c a) (At.Send 0) (g.M.Medium.holds c.loop-index.medium)
    (having g c a (with_end (ends g c) c.loop-index.index (get_or c.loop-index.out-items c.loop-index.index end)))
    (At.Send c.loop-index.index) c.loop-index.work
moved g c a end h =
    rw (set-get_or c.loop-index.out-items c.loop-index.index end) (c.loop-index.invariant.moved a h)

-- the ends as they are written back
items_are : (g : Over) (c : At-loop-index g) (ts : List OutEnd) → length ts ≡ length c.loop-index.out-items
    → (with_items c.self.inside.ends ts).items ≡ ts
items_are g c ts same-length = filled c.self.inside.ends.len ts _
    (omega (arith, ap length c.deref_mut-out-items.ensures.value))

-- a send writes an end that has the number of the one that was there
kept : (g : Over) (c : After-send g)
    → (out_ends_of (set c.loop-index.out-items c.loop-index.index c.send.new.self)).edges ≡ c.args.self.now.edges
kept g c = same_numbers (λ (o : OutEnd). o.link.edge) c.loop-index.out-items c.loop-index.index c.out-item.result
    c.send.new.self (omega arith)
    c.out-item.is (cc) ∙ c.loop-index.invariant.numbers

-- ends with these numbers are apart
apart_with : (g : Over) (c : At-loop-index g) (ts : List OutEnd) → (out_ends_of ts).edges ≡ c.args.self.now.edges
    → AreApart (out_ends_of ts).edges ts
apart_with g c ts named = named_apart (λ (o : OutEnd). o.link.edge) ts (out_ends_of c.self.inside.ends.items).edges
    (rw (← c.self.view_is) at named) c.self.invariant.ascending

pub send-requires : goal.send-requires
send-requires g c =
    let d = (goal.at.send-requires g c).At-loop-index in (
      having g d c.requires.0 (ends g d),
      apart g d,
      within g d c.loop-index-test.true,
      meets_after c.requires.1 (moved g d c.requires.0 c.out-item.result c.requires.1),
    )

pub returns-in_default-clause-moves : goal.returns-in_default-clause-moves
returns-in_default-clause-moves g c =
    let at = goal.at.returns-in_default-clause-moves g c in
    let d = at.At-loop-index in
    let ts : List OutEnd = set c.loop-index.out-items c.loop-index.index c.send.new.self in
    λ a h. rw (items_are g d ts (rw length-set refl), kept g at.After-send)
    (then_over (moved g d a c.out-item.result h) (c.in_default.ensures.moves (having g d a (ends g d)) (apart g d)
    (within g d c.loop-index-test.true) (meets_after h (moved g d a c.out-item.result h))))

pub returns-in_default-clause-refusal : goal.returns-in_default-clause-refusal
returns-in_default-clause-refusal g c =
    let at = goal.at.returns-in_default-clause-refusal g c in
    let d = at.At-loop-index in
    let ts : List OutEnd = set c.loop-index.out-items c.loop-index.index c.send.new.self in
    let long : length ts ≡ length c.loop-index.out-items = rw length-set refl in
    let apart' = apart_with g d ts (kept g at.After-send) in
    let below : c.loop-index.index < length (out_ends_of ts).edges =
    omega (arith, apart'.one_each) in
    let there = out_there {os = out_ends_of ts} refl apart' c.loop-index.index below (sym (get_or-set_same c.loop-index.out-items c.loop-index.index
    c.send.new.self c.send.new.self (omega arith))) in
    rw (items_are g d ts long) (below, rw (← there) (c.send.ensures.refused c.in_default.is))

pub loop-index-preserved : goal.loop-index-preserved
loop-index-preserved g c =
    let at = goal.at.loop-index-preserved g c in
    let d = at.At-loop-index in
    record {
      few = omega (arith, c.in-Some.ensures.few);
      numbers = kept g at.After-send;
      moved = λ a h. moves_on (moved g d a c.out-item.result h)
          (c.in-Some.ensures.moves (having g d a (ends g d)) (apart g d) (within g d c.loop-index-test.true)
          (meets_after h (moved g d a c.out-item.result h)));
    }

pub returns-clause-moves : goal.returns-clause-moves
returns-clause-moves g c =
    let d = (goal.at.returns-clause-moves g c).At-loop-index in
    let over : length c.args.self.now.edges ≤ c.loop-index.index =
    omega (arith, (apart g d).one_each) in
    λ a h. rw (items_are g d c.loop-index.out-items refl, c.loop-index.invariant.numbers)
    (then_over (c.loop-index.invariant.moved a h) (sends_end over))

pub invariant_of-self-in_default : goal.invariant_of-self-in_default
invariant_of-self-in_default g c =
    let at = goal.at.invariant_of-self-in_default g c in
    let ts : List OutEnd = set c.loop-index.out-items c.loop-index.index c.send.new.self in
    rw (items_are g at.At-loop-index ts (rw length-set refl)) (apart_with g at.At-loop-index ts (kept g at.After-send))

pub invariant_of-self : goal.invariant_of-self
invariant_of-self g c =
    let d = (goal.at.invariant_of-self g c).At-loop-index in
    rw (items_are g d c.loop-index.out-items refl)
    (apart_with g d c.loop-index.out-items c.loop-index.invariant.numbers)
