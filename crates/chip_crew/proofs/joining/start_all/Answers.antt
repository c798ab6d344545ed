use Rattle.chip_crew.proofs.Names.{◌≡◌, ◌+◌, length, arith, rules, crosses, frees, sendable, net_crosses}
use Rattle.chip_crew.proofs.Names.{IsReady, IsWorker, queue_of_all}
use Rattle.chip_crew.proofs.RunLemmas.{from_push, from_tail}
use Rattle.chip_crew.proofs.joining.start_all.Goals as goal

pub start-requires-send-D : goal.start-requires-send-D
start-requires-send-D g c κs within = search (crosses, sendable, net_crosses, frees) depth 60

pub loop-share-preserved : goal.loop-share-preserved
loop-share-preserved g c =
    let i = c.loop-share.invariant in
    let queue = queue_of_all c.args.shares.items in
    let place : c.loop-share.number ≡ 1 + length c.loop-share.others.items = omega arith in
    let steps = c.in-Some-share.ensures.steps.0 in
    let begun = c.in_ok-started.ensures.started in
    let first = (rw steps at i.shares).0 in
    record {
      shares = from_tail (IsReady g.B.Crew.asked queue) c.loop-share.number _ _ c.in-Some-share.share steps i.shares;
      left = search rules;
      count = search rules;
      started = from_push (λ worker h. IsWorker g.B.Crew.asked queue worker h.promise) 1 c.loop-share.others.items _
          c.in_ok-started.started c.push_reserved.ensures.items i.started (record {
            number_is = rw begun.0 place;
            ready = rw begun.1 (rw place at first);
          });
      room = search rules;
    }
