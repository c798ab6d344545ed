use Rattle.chip_crew.proofs.Names.{◌≡◌, ◌+◌, ◌%◌, ◌<◌, max, List, length, arith, add-one, rules, length-set}
use Rattle.chip_crew.proofs.Names.{ActorKnown, HasDealt}
use Rattle.chip_crew.proofs.DealingLemmas.{turn_at, none_at, dealt_net, dealt_turn}
use Rattle.chip_crew.proofs.shared.Shared.turn_each.Goals.{in-Some, in_default}
use Rattle.chip_crew.proofs.shared.Shared.turn_each.Goals as goal

pub turn-answer-requires : goal.turn-answer-requires
turn-answer-requires g c = record {
  net = rw c.self.invariant.net_is (dealt_net g.B.Crew.asked c.args.worker (c.args.first + c.loop-place.place)
      c.loop-place.place c.loop-place.actors.items c.in-Some.actor.now c.loop-place.invariant.made (search rules)
      c.in-Some.ensures.value);
}

pub loop-place-preserved : goal.loop-place-preserved
loop-place-preserved g c =
    let i = c.loop-place.invariant in
    let place = c.loop-place.place in
    let before = c.loop-place.actors.items in
    let count = i.count in
    let begins : c.args.first % max 1 (length before) ≡ 0 = rw count c.requires.first in
    let less : place < max 1 (length before) = omega arith in
    let turned = λ (now : List ActorKnown). dealt_turn g.B.Crew.asked c.args.worker c.args.first place before now i.made begins
    less c.if-not-begin.ensures.begins.0 in
    let both : HasDealt g.B.Crew.asked c.args.worker (c.args.first + (place + 1)) c.match-get_mut.actors.items
    × (length c.match-get_mut.actors.items ≡ length c.args.actors.now.items) = elim c.match-get_mut.branch [
      | in-Some w ↦ rw w.actors-is (
        turned _ (turn_at place before w.in-Some.actor.now w.turn-answer.new.self w.turn-answer.result (search rules)
            w.in-Some.ensures.value w.turn-answer.ensures.turn),
        rw length-set count,
      )
      | in_default w ↦ rw w.actors-is (turned before (none_at place before (search rules)), count)
    ] in
    record {
      made = both.0;
      count = both.1;
      can = search rules;
      goes_on = search rules;
      done = rw add-one (c.loop-place.duties, i.done, c.if-not-begin.ensures.begins.1);
    }
