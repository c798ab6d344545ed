use Rattle.chip_actor.proofs.Names.{◌≡◌, ℕ, Option, None, true, false, is_some, is_none, ap}
use Rattle.chip_actor.proofs.Names.{arith, Cause, refusals, Actor, refusal_due, refusal_over}
use Rattle.chip_actor.proofs.Names.{refusal_none, sends_begin, passes_due, nat_tests}
use Rattle.chip_part.specs.declared.cursor.Cursor.TheVariants as At
use Rattle.chip_actor.proofs.actor.ActorState.due_refusal.Goals as goal

halted : (h : Option Cause) → is_some h ≡ true → is_none h ≡ false
halted h on = grind (arith, nat_tests)

runs : (h : Option Cause) → is_some h ≡ false → h ≡ None
runs h off = grind (arith, nat_tests)

pub returns-then-is_some : goal.returns-then-is_some
returns-then-is_some c = λ g s stands at.
    let v : ℕ = c.args.self.now.vertex in
    let on = rw (c.is_some.ensures, (rw (← c.self.view_is) at stands.halt)) at c.if-is_some.true in
    passes_due g v s At.Refusal At.Limit (refusal_over g v stands.knows.vertex s (halted s.halt on)) c.due_limit.result
    (c.due_limit.ensures g s stands at)

pub returns-then-self-gt0 : goal.returns-then-self-gt0
returns-then-self-gt0 c = λ g s stands at.
    let v : ℕ = c.args.self.now.vertex in
    let off = rw (c.is_some.ensures, (rw (← c.self.view_is) at stands.halt)) at c.if-is_some.false in
    let same = ap (λ (a : Actor). a.refused) c.self.view_is in
    rw (ap (λ (a : Actor). a.vertex) c.self.view_is)
    (refusal_due g v stands.knows.vertex s stands.knows.setting.game at (runs s.halt off)
    (λ z. absurd (omega arith)))

pub due_send-requires : goal.due_send-requires
due_send-requires c =
    let r = c.requires in
    let off = rw (c.is_some.ensures, (rw (← c.self.view_is) at r.2.halt)) at c.if-is_some.false in
    let same = ap (λ (a : Actor). a.refused) c.self.view_is in (
      r.0,
      r.1,
      r.2,
      sends_begin r.0 c.args.self.now.vertex r.2.knows.vertex r.1 r.3 (runs r.1.halt off)
          (omega arith),
    )

pub returns : goal.returns
returns c = λ g s stands at.
    let v : ℕ = c.args.self.now.vertex in
    let off = rw (c.is_some.ensures, (rw (← c.self.view_is) at stands.halt)) at c.if-is_some.false in
    let same = ap (λ (a : Actor). a.refused) c.self.view_is in
    let none : refusals g v s ≡ 0 = omega arith in
    passes_due g v s At.Refusal (At.Send 0) (refusal_none g v stands.knows.vertex s (runs s.halt off) none)
    c.due_send.result (c.due_send.ensures g s stands
    (sends_begin g v stands.knows.vertex s at (runs s.halt off) none))
