use Rattle.chip_crew.proofs.Names.{◌≡◌, ◌+◌, ◌≤◌, length, vec_capacity, EachFrom, IsReady, IsWorker, queue_of_all}
use Rattle.chip_crew.proofs.joining.start_all.Given as goal

abbrev pub invariant-loop-share : goal.invariant-loop-share
invariant-loop-share g l = record {
  shares : EachFrom (IsReady g.B.Crew.asked (queue_of_all l.fn.shares.items)) l.number l.share-iterator.rest.items;
  left : l.number + length l.share-iterator.rest.items ≡ g.B.Crew.asked.crew.workers;
  count : length l.others.items + 1 ≡ l.number;
  started : EachFrom (λ worker h. IsWorker g.B.Crew.asked (queue_of_all l.fn.shares.items) worker h.promise) 1 l.others.items;
  room : g.B.Crew.asked.crew.workers ≤ vec_capacity l.others;
}
