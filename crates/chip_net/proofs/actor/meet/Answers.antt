use Rattle.chip_net.proofs.Names.{◌≡◌, ◌≢◌, ℕ, ◌+◌, ◌++◌, List, length, map, take, drop, set, Some, sym, ◌∙◌}
use Rattle.chip_net.proofs.Names.{arith, dite, ℕ_discrete, slice_get, slice_get_within, ActorKnown, at_net}
use Rattle.chip_net.proofs.Names.{seatless, find}
use Rattle.chip_net.proofs.MeetingLemmas.{same_count, next, all_are, map_at, all_back}
use Rattle.chip_net.proofs.actor.meet.Goals.{After-lend-arg-1, After-take_back-arg-1}
use Rattle.chip_net.proofs.actor.meet.Goals as goal

-- the next actor of the first loop, and of the second
lends : (c : After-lend-arg-1) → let a = c.deref_mut.result.now in let n = c.loop-index.index in
    (slice_get c.args.actors.now n ≡ Some a) × (set c.loop-index.actors n (seatless a)
    ≡ map seatless (take (n + 1) c.args.actors.now) ++ drop (n + 1) c.args.actors.now)
lends c = next seatless c.args.actors.now c.loop-index.actors c.loop-index.index c.loop-index.invariant.items
    (omega arith)
    c.deref_mut.result.now c.index-actors-index.result (c.deref_mut.ensures.value ∙ c.actor.view_is)

abbrev lent : After-take_back-arg-1 → List ActorKnown
lent c = map seatless c.args.actors.now

takes : (c : After-take_back-arg-1) → let a = c.deref_mut-in-loop-index-2.result.now in let n = c.loop-index-2.index in
    (slice_get (lent c) n ≡ Some a) × (set c.loop-index-2.actors n (at_net c.args.net.now a)
    ≡ map (at_net c.args.net.now) (take (n + 1) (lent c)) ++ drop (n + 1) (lent c))
takes c = next (at_net c.args.net.now) (lent c) c.loop-index-2.actors c.loop-index-2.index
    c.loop-index-2.invariant.items
    (omega arith) c.deref_mut-in-loop-index-2.result.now c.index-actors-index-in-loop-index-2.result
    (c.deref_mut-in-loop-index-2.ensures.value ∙ c.actor-in-loop-index-2.view_is)

-- the actor before its part was taken
was : (c : After-take_back-arg-1) → (a : ActorKnown) × (slice_get c.args.actors.now c.loop-index-2.index ≡ Some a)
    × (c.deref_mut-in-loop-index-2.result.now ≡ seatless a)
was c = map_at seatless c.args.actors.now c.loop-index-2.index c.deref_mut-in-loop-index-2.result.now (takes c).0

vertex_is : (c : After-take_back-arg-1) → c.deref_mut-in-loop-index-2.result.now.vertex ≡ c.loop-index-2.index
vertex_is c = rw (was c).2 (c.requires.actors c.loop-index-2.index (was c).0 (was c).1).1

pub lend-requires-clause-net : goal.lend-requires-clause-net
lend-requires-clause-net c = (c.requires.actors c.loop-index.index c.deref_mut.result.now (lends c).0).0

pub loop-index-preserved : goal.loop-index-preserved
loop-index-preserved c =
    let d = lends (goal.at.loop-index-preserved c).After-lend-arg-1 in
    let i = c.loop-index.invariant in
    let vertex = (c.requires.actors c.loop-index.index c.deref_mut.result.now d.0).1 in
    record {
      table = c.lend.ensures.same ∙ i.table;
      items = rw c.lend.ensures.lent d.1;
      parts = λ v a l at. dite (ℕ_discrete c.deref_mut.result.now.vertex v)
          (λ same. let part = c.lend.ensures.part in let here = d.0 in cc)
          (λ other. c.lend.ensures.others v other ∙ i.parts v a (omega (arith, l, other, vertex)) at);
      others = λ p l. c.lend.ensures.others p (λ e.
          let n = slice_get_within c.args.actors.now c.loop-index.index c.deref_mut.result.now d.0 in
          omega (arith, l, e, vertex, n)) ∙ i.others p l;
    }

pub loop-index-2-init : goal.loop-index-2-init
loop-index-2-init c =
    let i = c.loop-index.invariant in
    let all = same_count seatless c.args.actors.now c.loop-index.actors c.loop-index.index i.items in
    let past : c.loop-index.index ≡ length c.args.actors.now = omega (arith, all) in
    let me = c.look.ensures.same.1 in record {
      table = c.look.ensures.same.0 ∙ i.table;
      items = all_are seatless c.args.actors.now c.loop-index.actors c.loop-index.index i.items past;
      parts = λ v a l at. rw me
          (i.parts v a (let z = slice_get_within c.args.actors.now v a at in omega (arith, past, z)) at);
      others = λ p l. rw me (i.others p l);
    }

pub take_back-requires-clause-net : goal.take_back-requires-clause-net
take_back-requires-clause-net c =
    rw ((was c).2, (c.requires.actors c.loop-index-2.index (was c).0 (was c).1).0)

pub take_back-requires-clause-part : goal.take_back-requires-clause-part
take_back-requires-clause-part c = rw (vertex_is c, (was c).2)
    (c.loop-index-2.invariant.parts c.loop-index-2.index (was c).0 (omega arith) (was c).1)

pub loop-index-2-preserved : goal.loop-index-2-preserved
loop-index-2-preserved c =
    let d = (goal.at.loop-index-2-preserved c).After-take_back-arg-1 in
    let i = c.loop-index-2.invariant in
    let left : (p : ℕ) → c.loop-index-2.index ≢ p
    → find p c.take_back.new.seat.me.0.parts ≡ find p c.loop-index-2.seat.me.0.parts =
    (λ p other. c.take_back.ensures.others p (λ e. other (sym (vertex_is d) ∙ e))) in record {
      table = c.take_back.ensures.same ∙ i.table;
      items = rw c.take_back.ensures.back (takes d).1;
      parts = λ v a l at. left v (λ e. omega arith) ∙ i.parts v a (omega arith) at;
      others = λ p l. left p (λ e.
          let n = slice_get_within c.args.actors.now c.loop-index-2.index (was d).0 (was d).1 in omega (arith, l, e, n))
          ∙ i.others p l;
    }

pub returns-clause-actors : goal.returns-clause-actors
returns-clause-actors c =
    let i = c.loop-index-2.invariant in
    let lent : List ActorKnown = map seatless c.args.actors.now in
    let all = same_count (at_net c.args.net.now) lent c.loop-index-2.actors c.loop-index-2.index i.items in
    all_are (at_net c.args.net.now) lent c.loop-index-2.actors c.loop-index-2.index i.items (omega (arith, all))
    ∙ all_back c.args.net.now c.args.actors.now (λ v a at. (c.requires.actors v a at).0)
