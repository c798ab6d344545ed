use Rattle.std.proofs.Common.{◌≡◌, true, arith}
use Rattle.chip_core_tests.proofs.ActorAskLemmas.{turn_due, turn_goes_on}
use Rattle.chip_core_tests.proofs.actor.make_turn.Goals as goal

pub apply-reply-requires : goal.apply-reply-requires
apply-reply-requires g c =
    let on : c.is_wanted.result ≡ true = cc in
    turn_due c.loop-i.actor c.loop-i.cursor c.next-act.result.1 c.next-act.result.0 c.args.turn.now c.loop-i.i _
    (omega arith) c.loop-i.invariant.turning c.next-act.ensures.goes (c.is_wanted.ensures.same on)
    (c.is_wanted.ensures.some on)

pub loop-i-preserved : goal.loop-i-preserved
loop-i-preserved g c =
    let on : c.is_wanted.result ≡ true = cc in
    record {
      few = omega arith;
      turning = turn_goes_on c.loop-i.actor c.loop-i.cursor c.next-act.result.1 c.next-act.result.0 c.args.turn.now
          c.loop-i.i _ (omega arith) c.loop-i.invariant.turning c.next-act.ensures.goes (c.is_wanted.ensures.same on)
          (c.is_wanted.ensures.some on)
          c.apply-reply.new.self c.apply-reply.result c.apply-reply.ensures;
    }
