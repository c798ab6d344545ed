use Rattle.chip_world.proofs.Names.{◌≤◌, ◌^◌, ℕ, arith, edge_counts, claims_most, StandsForLog}
use Rattle.chip_world.proofs.FlightLemmas.{flight_more}
use Rattle.chip_world.proofs.world.World.in_flight.Goals as goal

-- at most the sent messages are delivered, and their number is bounded
record InRange (first claims : ℕ) : Type 0 where
  behind : first ≤ claims
  few : claims ≤ 2 ^ 40

in_range : (c : goal.After-sent-claims) → InRange c.delivered-first.result c.sent-claims.result
in_range c =
    let some = c.delivered-first.ensures.some_log in
    let at : StandsForLog some.0 some.1 c.args.self.now = some.2 in
    let first = c.delivered-first.ensures.value some.0 some.1 at in
    let claims = c.sent-claims.ensures some.0 some.1 at in
    let counts = edge_counts some.0 at.is_setting.game at.is_setting.some_ring some.1 at.legal c.args.edge in
    let c2 = counts.2 in let c3 = counts.3 in
    let most = claims_most some.0 at.is_setting.game at.is_setting.some_ring some.1 at.legal c.args.edge in
    record { behind = omega arith; few = omega arith }

pub overflow_sub-claims : goal.overflow_sub-claims
overflow_sub-claims c = (in_range c).behind

pub overflow_add-claims : goal.overflow_add-claims
overflow_add-claims c = let r = in_range c in let few = r.few in let room = c.requires.room in omega arith

pub loop-place-preserved : goal.loop-place-preserved
loop-place-preserved c =
    let inv = c.loop-place.invariant in let later = c.loop-place.auto.place in let before = c.loop-place-test.true in
    record {
      so_far = λ g log stands.
          let first = c.delivered-first.ensures.value g log stands in
          let within = rw (c.sent-claims.ensures g log stands) at before in
          rw c.push_reserved.ensures.items (flight_more g log c.args.edge c.delivered-first.result c.loop-place.place
          c.count_at-count.result c.loop-place.messages.items first later within
          (c.count_at-count.ensures g log stands (rw first at later) within) (inv.so_far g log stands));
      many = (let more = c.push_reserved.ensures.len in let many = inv.many in omega arith);
      room = (let same = c.push_reserved.ensures.capacity in let room = inv.room in omega arith);
    }
