use Rattle.chip_log.proofs.Names.{◌≤◌, length, ◌-◌, ForSome}
use Rattle.chip_log.proofs.PlacesLemmas.{IsRightBefore}
use Rattle.chip_log.proofs.FirstLemmas.{AreRight}
use Rattle.chip_log.proofs.first.first_in_order.Given as goal

abbrev pub invariant-loop-next : goal.invariant-loop-next
invariant-loop-next g l = record {
  place : l.next ≤ length l.places.items;
  right : ForSome l.right (IsRightBefore l.rows l.places.items l.next);
  all : AreRight l.rows l.places.items l.next;
}

abbrev pub decreases-loop-next : goal.decreases-loop-next
decreases-loop-next g l = length l.places.items - l.next
