use Rattle.chip_crew.proofs.Names.{arith, rules, sum_by-IsPermutation, IsNonDecreasingBy-from_sort_by_key, ActorKnown}
use Rattle.chip_crew.proofs.Names.{turns_of}
use Rattle.chip_crew.proofs.DealingLemmas.{cut_last}
use Rattle.chip_crew.proofs.RunLemmas.{in_order}
use Rattle.chip_crew.proofs.GatheringLemmas.{sorted_actors}
use Rattle.chip_crew.proofs.gathering.gather.Goals as goal

pub returns-in-Queue : goal.returns-in-Queue
returns-in-Queue g c =
    let row = c.drain.new.row.items in
    let now = c.sort_unstable_by_key.new.self.items in
    let moves = c.sort_unstable_by_key.ensures.permutation in
    record {
      actors = sorted_actors g.B.Crew.asked.crew row now c.drain.ensures.all moves (search rules)
          (IsNonDecreasingBy-from_sort_by_key (λ (a : ActorKnown). a.vertex) now c.sort_unstable_by_key.ensures.sorted
          (λ a r q k. search rules));
      turns = (let same = sum_by-IsPermutation turns_of row now moves in omega (arith, c.drain.ensures.turns));
    }

pub returns-in-Dealt : goal.returns-in-Dealt
returns-in-Dealt g c =
    let back = rw c.in-Dealt.is at c.requires.back in
    record {
      actors = record {
        count = cut_last g.B.Crew.asked.crew.net.setting.game.graph g.B.Crew.asked.crew.workers _ c.requires.some
            back.1.up_to;
        order = in_order g.B.Crew.asked.crew c.in-Dealt.row.items back.1.each;
      };
      turns = back.2;
    }
