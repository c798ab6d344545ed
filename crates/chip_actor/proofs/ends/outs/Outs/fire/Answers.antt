use Rattle.chip_actor.proofs.Names.{◌≡◌, ℕ, ◌*◌, ◌<◌, ◌≤◌, map, refl, ◌^◌, arith, ap, length, length-set, get_or}
use Rattle.chip_actor.proofs.Names.{◌∙◌, List, [], ◌∷◌, OutEnd, out_ends_of, no_out, out_on}
use Rattle.chip_actor.proofs.Names.{out_after_fire, Contains, with_items, get_or_default, take_all, ascends}
use Rattle.chip_actor.proofs.LookupsLemmas.{on_edge_at, on_edge_map}
use Rattle.chip_actor.proofs.EndLemmas.{reads_old, done_more, rest_less, filled, named_apart}
use Rattle.chip_actor.proofs.ends.outs.Outs.fire.Goals.{After-loop-out}
use Rattle.chip_actor.proofs.ends.outs.Outs.fire.Goals as goal

-- what is there was there before the loop
pub overflow_mul-out : goal.overflow_mul-out
overflow_mul-out c =
    let read = reads_old (out_after_fire c.args.k) c.deref_mut-out-items.result.now c.loop-out.out-items
    c.loop-out.out-index c.out-item.result c.loop-out.invariant.lengths c.loop-out.invariant.done
    c.loop-out.invariant.rest (omega arith) in
    let items = c.deref_mut-out-items.ensures.value in
    let inside : c.loop-out.out-index < length (out_ends_of c.self.inside.ends.items).edges =
    omega (arith, ap length items) in
    let e : ℕ = get_or (out_ends_of c.self.inside.ends.items).edges c.loop-out.out-index 0 in
    let here = on_edge_at no_out (out_ends_of c.self.inside.ends.items).edges c.self.inside.ends.items c.loop-out.out-index
    c.out-item.result (ascends (out_ends_of c.self.inside.ends.items).edges c.self.invariant.ascending) c.self.invariant.one_each inside
    in
    let among : Contains (out_ends_of c.self.inside.ends.items).edges e =
    (c.loop-out.out-index, inside, get_or_default (out_ends_of c.self.inside.ends.items).edges c.loop-out.out-index e 0 inside) in
    let few : c.args.k * (out_on c.args.self.now e).mult < 2 ^ 64 =
    c.requires e (rw (← c.self.view_is) among) in
    let fits : c.args.k * (get_or c.loop-out.out-items c.loop-out.out-index c.out-item.result).mult < 2 ^ 64 =
    rw (read, items, ← here) (rw (← c.self.view_is) at few) in
    omega arith

pub loop-out-preserved : goal.loop-out-preserved
loop-out-preserved c = record {
  lengths = rw length-set c.loop-out.invariant.lengths;
  done = done_more (out_after_fire c.args.k) c.deref_mut-out-items.result.now c.loop-out.out-items c.loop-out.out-index
      c.out-item.result c.loop-out.invariant.lengths c.loop-out.invariant.done c.loop-out.invariant.rest (omega arith);
  rest = rest_less (out_after_fire c.args.k) c.deref_mut-out-items.result.now c.loop-out.out-items c.loop-out.out-index
      c.out-item.result c.loop-out.invariant.lengths c.loop-out.invariant.done c.loop-out.invariant.rest (omega arith);
}

-- what the loop leaves: each end fired, under its own number
fired : (c : After-loop-out) → (with_items c.self.inside.ends c.loop-out.out-items).items
    ≡ map (out_after_fire c.args.k) c.self.inside.ends.items
fired c =
    let old : List OutEnd = c.deref_mut-out-items.result.now in
    let all : length old ≤ c.loop-out.out-index = c.loop-out-test.false in
    let l = c.loop-out.invariant.lengths in
    let now = take_all c.loop-out.out-index c.loop-out.out-items (omega arith) in
    filled c.self.inside.ends.len c.loop-out.out-items _
    (let m = ap length c.deref_mut-out-items.ensures.value in let n = c.self.inside.ends.ok.0 in omega arith)
    ∙ rw (← now, c.loop-out.invariant.done, take_all c.loop-out.out-index old all, c.deref_mut-out-items.ensures.value)
    refl

-- the numbers do not change
numbers : (k : ℕ) (ends : List OutEnd) → (out_ends_of (map (out_after_fire k) ends)).edges ≡ (out_ends_of ends).edges
numbers k [] = refl
numbers k (o ∷ os) = rw (numbers k os) refl

pub returns : goal.returns
returns c =
    let is = fired (goal.at.returns c).After-loop-out in
    rw (← c.self.view_is) (record {
      edges = rw is (numbers c.args.k c.self.inside.ends.items);
      each = λ e among. rw (is, numbers c.args.k c.self.inside.ends.items)
          (on_edge_map no_out (out_after_fire c.args.k) (out_ends_of c.self.inside.ends.items).edges
          c.self.inside.ends.items e c.self.invariant.one_each among);
    })

pub invariant_of-self : goal.invariant_of-self
invariant_of-self c =
    let is = fired (goal.at.invariant_of-self c).After-loop-out in
    rw is (named_apart (λ (o : OutEnd). o.link.edge) (map (out_after_fire c.args.k) c.self.inside.ends.items)
    (out_ends_of c.self.inside.ends.items).edges (numbers c.args.k c.self.inside.ends.items) c.self.invariant.ascending)
