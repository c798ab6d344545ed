use Rattle.chip_actor.proofs.Names.{rules, Contains, answers_always}
use Rattle.chip_actor.proofs.Names.{FoundAt, searched, OutEnd, AreApart, no_out, out_ends_of}
use Rattle.chip_actor.proofs.ends.outs.Outs.slot_of.Goals.{After-binary_search_by_key}
use Rattle.chip_actor.proofs.ends.outs.Outs.slot_of.Goals as goal

-- the edge has an end, so the search succeeds, at its slot
found : (c : After-binary_search_by_key) → FoundAt (out_ends_of c.deref.result.now).edges c.args.edge c.binary_search_by_key.result
found c =
    let facts = c.binary_search_by_key.ensures in
    let apart : AreApart (out_ends_of c.deref.result.now).edges c.deref.result.now = rw c.deref.ensures.value c.self.invariant in
    let among : Contains (out_ends_of c.deref.result.now).edges c.args.edge =
    rw c.deref.ensures.value (rw (← c.self.view_is) at c.requires) in
    let by_key = facts.position (λ o. o.link.edge) (answers_always _ _ _ (λ f a r g called. search rules)) in
    searched (λ (o : OutEnd). o.link.edge) no_out c.deref.result.now apart.ascending c.args.edge c.binary_search_by_key.result
    among facts.bound by_key

pub unwrap-index-requires : goal.unwrap-index-requires
unwrap-index-requires c = (found (goal.at.unwrap-index-requires c).After-binary_search_by_key).ok

pub returns-clause-slot : goal.returns-clause-slot
returns-clause-slot c = rw (← c.self.view_is, ← c.deref.ensures.value)
    (rw c.unwrap-index.ensures at (found (goal.at.returns-clause-slot c).After-binary_search_by_key).slot)
