use Rattle.chip_crew.proofs.Names.{◌≡◌, ℕ, ◌+◌, ◌≤◌, List, length, refl, ap, arith, add-one}
use Rattle.chip_crew.proofs.Names.{◌++◌, length-append, rules, sum_by-append, vec_capacity, view, ActorKnown}
use Rattle.chip_crew.proofs.Names.{passes, CrewId, IsAt, turns_of, all_turns, AreActorsOf, IsRow}
use Rattle.chip_crew.proofs.DealingLemmas.{rounds_turns, cut_same}
use Rattle.chip_crew.proofs.RunLemmas.{from_append}
use Rattle.chip_crew.proofs.TurnLemmas.{are_made}
use Rattle.chip_crew.proofs.gathering.Collected.take.Goals.{in-Queue+in-Queue-back, in-Dealt+in-Dealt-back+in-Ok}
use Rattle.chip_crew.proofs.gathering.Collected.take.Goals as goal

-- the run of the next worker comes after those that are there
row_longer : (crew : CrewId) (worker : ℕ) (row actors : List ActorKnown) (room more : ℕ) → IsRow crew worker row room
    → AreActorsOf crew worker actors → room ≤ more → IsRow crew (worker + 1) (row ++ actors) more
row_longer crew worker row actors room more is are grown =
    let both = length-append row actors in
    let from = cut_same crew.net.setting.game.graph crew.workers worker are.from (length row) are.is_first is.up_to in
    let same : are.from ≡ 0 + length row = omega arith in
    let end : are.from + length actors ≡ length (row ++ actors) = omega arith in
    record {
      up_to = rw add-one (rw end at are.is_next);
      each = from_append (IsAt crew) 0 row actors is.each (rw same at are.each);
      has_room = omega arith;
    }

pub join_pass-requires-clause-has : goal.join_pass-requires-clause-has
join_pass-requires-clause-has g c =
    let made = c.requires.made in
    (are_made (passes g.B.Crew.asked c.args.self.now.workers) made.0 (view c.in-Queue.theirs) c.in-Queue.kept
    (rw c.in-Queue.is at made.2).2).0

pub join_pass-requires-clause-turns : goal.join_pass-requires-clause-turns
join_pass-requires-clause-turns g c =
    let made = c.requires.made in
    let own = (are_made (passes g.B.Crew.asked c.args.self.now.workers) made.0 (view c.in-Queue.theirs) c.in-Queue.kept
    (rw c.in-Queue.is at made.2).2).1 in omega arith

pub returns : goal.returns
returns g c =
    let workers = c.args.self.now.workers in
    elim c.match-share.branch [
      | in-Queue+in-Queue-back w ↦
          let back = rw w.in-Queue-back.is at c.requires.back in rw w.self-is (record {
            workers = refl;
            are_back = (
              back.0,
              w.join_pass.ensures.pass,
              rw back.2.speaks at w.join_pass.ensures.gathering,
            );
            uses = rw w.in-Queue-back.is (let was = back.1.0 in cc);
            passed_is = refl;
          })
      | in-Dealt+in-Dealt-back+in-Ok w ↦
          let back = rw w.in-Dealt-back.is at c.requires.back in
          let made = rw w.in-Dealt.is at c.requires.made.2 in
          let row = w.in-Dealt-back.row in
          let actors = w.in-Dealt.actors.items in
          let items : w.append.new.self.items ≡ row.items ++ actors = search rules in
          rw w.self-is (record {
            workers = refl;
            are_back = (
              back.0,
              rw items (row_longer g.B.Crew.asked.crew workers row.items actors (vec_capacity row) (vec_capacity w.append.new.self)
                  back.1 made.1 w.append.ensures.capacity),
              (let all = ap all_turns items in let both = sum_by-append turns_of row.items actors in
                  let own = rounds_turns (passes g.B.Crew.asked workers) c.requires.made.0 made.2.0 actors made.2.2 in omega arith),
            );
            uses = rw w.in-Dealt-back.is refl;
            passed_is = refl;
          })
    ]
