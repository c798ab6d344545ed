use Rattle.chip_crew.proofs.Names.{IfSome_then, one_run}
use Rattle.chip_crew.proofs.FinishingLemmas.{ends_led, stays_led}
use Rattle.chip_crew.proofs.play.end_play.Goals as goal

pub meet-requires-clause-actors : goal.meet-requires-clause-actors
meet-requires-clause-actors g c v a at =
    let ours = c.gather-actors.ensures.actors.order v a at in (rw c.shared.invariant.net_is ours.0.net_is, ours.1)

pub returns-in-Ok-clause-finished : goal.returns-in-Ok-clause-finished
returns-in-Ok-clause-finished g c =
    let ends = c.in-Ok.ensures.ends in
    let same = c.meet.ensures.same in
    record {
      ends = rw same.0 (ends_led g.B.Crew.asked c.args.joined.round c.go_on.result c.go_on.new.self c.take_back.new.root
          c.go_on.ensures.led c.go_on.ensures.lasts c.take_back.ensures.back c.in-Ok.receipt c.in-Ok.outcome ends);
      actors = rw same.1 c.gather-actors.ensures.actors;
      turns = rw same.1 c.gather-actors.ensures.turns;
      run = rw (same.0, same.1)
          (one_run ends.root c.in-Ok.receipt c.in-Ok.outcome c.gather-actors.result.items ends.finishes
          c.meet.ensures.together);
    }

pub returns-in-Err-clause-stopped : goal.returns-in-Err-clause-stopped
returns-in-Err-clause-stopped g c = stays_led g.B.Crew.asked c.args.joined.round c.go_on.result c.go_on.new.self
    c.take_back.new.root c.go_on.ensures.led c.go_on.ensures.lasts c.take_back.ensures.back c.in-Err.root c.in-Err.deficit
    c.in-Err.ensures.ends

pub take_back-requires-clause-stopper : goal.take_back-requires-clause-stopper
take_back-requires-clause-stopper g c =
    IfSome_then c.go_on.new.self.seal c.go_on.ensures.led.can.seal (λ s has. rw c.shared.invariant.net_is has.0)
