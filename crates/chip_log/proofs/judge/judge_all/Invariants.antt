use Rattle.chip_log.proofs.Names.{◌≡◌, ◌≤◌, length, ◌-◌, take, map, ForSome, All, place_at, IsJudged, claim_place}
use Rattle.chip_log.proofs.PlacesLemmas.{IsRightBefore}
use Rattle.chip_log.proofs.judge.judge_all.Given as goal

abbrev pub invariant-loop-next : goal.invariant-loop-next
invariant-loop-next g l = record {
  place : l.next ≤ length l.places.items;
  same : map claim_place l.claims.items ≡ map place_at (take l.next l.places.items);
  each : All (IsJudged l.fn.with_past l.rows) l.claims.items;
  right : ForSome l.right (IsRightBefore l.rows l.places.items l.next);
}

abbrev pub decreases-loop-next : goal.decreases-loop-next
decreases-loop-next g l = length l.places.items - l.next
