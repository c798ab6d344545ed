use Rattle.chip_actor.proofs.Names.{ℕ, Some, None, ap, Actor, put_due, puts_over, puts_fit, passes_due}
use Rattle.chip_actor.proofs.TurnActorLemmas.{first_held, none_held}
use Rattle.chip_part.specs.declared.cursor.Cursor.TheVariants as At
use Rattle.chip_actor.proofs.actor.ActorState.due_put.Goals as goal

pub due_refusal-requires-in-None : goal.due_refusal-requires-in-None
due_refusal-requires-in-None c =
    let r = c.requires in (
      r.0,
      r.1,
      r.2,
      puts_fit r.0 c.args.self.now.vertex r.2.knows.vertex r.1 c.args.place r.3
          (first_held r.0 r.1 c.args.self.now r.2 _ c.self.view_is c.args.place None c.in-None.ensures),
    )

pub returns-in-Some : goal.returns-in-Some
returns-in-Some c = λ g s stands at.
    let v : ℕ = c.args.self.now.vertex in
    let n : ℕ = c.in-Some.place in
    let first = first_held g s c.args.self.now stands _ c.self.view_is c.args.place (Some n) c.in-Some.ensures in
    let view = ap (λ (a : Actor). a.outs.edges) c.self.view_is in
    rw (c.edge-edge.ensures, c.at.ensures.edge, view, stands.knows.outs)
    (put_due g v stands.knows.vertex s c.args.place n at first.0 first.1 first.2 first.3)

pub returns-in-None : goal.returns-in-None
returns-in-None c = λ g s stands at.
    let v : ℕ = c.args.self.now.vertex in
    let none = first_held g s c.args.self.now stands _ c.self.view_is c.args.place None c.in-None.ensures in
    passes_due g v s (At.Put c.args.place) At.Refusal (puts_over g v stands.knows.vertex s c.args.place none)
    c.due_refusal-in-None.result
    (c.due_refusal-in-None.ensures g s stands (puts_fit g v stands.knows.vertex s c.args.place at none))

pub due_refusal-requires : goal.due_refusal-requires
due_refusal-requires c =
    let r = c.requires in
    let none = none_held r.0 r.1 c.args.self.now r.2 (rw (← c.self.view_is) c.if-self-eq0.true) in (
      r.0,
      r.1,
      r.2,
      puts_fit r.0 c.args.self.now.vertex r.2.knows.vertex r.1 c.args.place r.3
          (λ k le within. none k within),
    )

pub returns-then-self-eq0 : goal.returns-then-self-eq0
returns-then-self-eq0 c = λ g s stands at.
    let v : ℕ = c.args.self.now.vertex in
    let none = none_held g s c.args.self.now stands (rw (← c.self.view_is) c.if-self-eq0.true) in
    passes_due g v s (At.Put c.args.place) At.Refusal
    (puts_over g v stands.knows.vertex s c.args.place (λ k le within. none k within)) c.due_refusal.result
    (c.due_refusal.ensures g s stands
    (puts_fit g v stands.knows.vertex s c.args.place at (λ k le within. none k within)))
