use Rattle.chip_actor.proofs.Names.{◌≡◌, ℕ, Some, head_of, may_ack_on, parent_due, no_parent_due, refl, arith, nat_tests}
use Rattle.chip_actor.proofs.StandingLemmas.{books_in, may_ack_is}
use Rattle.chip_actor.proofs.actor.ActorState.due_parent.Goals as goal

pub may_ack-requires : goal.may_ack-requires
may_ack-requires c =
    let r = c.requires in
    let is : r.1.parent ≡ Some c.in_ok-edge.edge =
    rw (← r.2.books.parent, ← c.self.view_is, ← c.in_ok-edge.ensures.parent) refl in
    rw (← c.self.view_is) at
    (books_in r.0 r.1 c.args.self.now r.2 c.in_ok-edge.edge (r.2.kept.parents c.in_ok-edge.edge is).1)

pub returns-then-may_ack-eq0 : goal.returns-then-may_ack-eq0
returns-then-may_ack-eq0 c = λ g s stands at.
    let e : ℕ = c.in_ok-edge.edge in
    let is : s.parent ≡ Some e = rw (← stands.books.parent, ← c.self.view_is, ← c.in_ok-edge.ensures.parent) refl in
    let mine = (stands.kept.parents e is).1 in
    let may-is : c.may_ack.result ≡ may_ack_on g (head_of g e) s e
    = rw (c.may_ack.ensures, c.passive.ensures.value, ← c.self.view_is)
    (rw (← c.self.view_is) at (may_ack_is g s c.args.self.now stands e mine)) in
    no_parent_due g c.args.self.now.vertex stands.knows.vertex s e is (rw may-is at c.if-may_ack-eq0.true)

pub returns : goal.returns
returns c = λ g s stands at.
    let e : ℕ = c.in_ok-edge.edge in
    let is : s.parent ≡ Some e = rw (← stands.books.parent, ← c.self.view_is, ← c.in_ok-edge.ensures.parent) refl in
    let mine = (stands.kept.parents e is).1 in
    let may-is : c.may_ack.result ≡ may_ack_on g (head_of g e) s e
    = rw (c.may_ack.ensures, c.passive.ensures.value, ← c.self.view_is)
    (rw (← c.self.view_is) at (may_ack_is g s c.args.self.now stands e mine)) in
    parent_due g c.args.self.now.vertex stands.knows.vertex s e is mine
    (rw (← may-is) (let some = c.if-may_ack-eq0.false in grind (arith, nat_tests)))
