use Rattle.chip_crew.proofs.Names.{◌≡◌, ◌<◌, List, length, Option, Some, None, refl, arith, []}
use Rattle.chip_crew.proofs.Names.{◌∷◌, rules, All-nil, TableId, Asked, IsOurs, IsReady, AreReady}
use Rattle.chip_crew.proofs.Names.{queue_of_all, Share}
use Rattle.chip_crew.proofs.PlacesLemmas.{forks}
use Rattle.chip_crew.proofs.RunLemmas.{from_push}
use Rattle.chip_crew.specs.declared.worker.Share.TheVariants as share
use Rattle.chip_crew.proofs.play.passes.Goals as goal

pub another-requires-clause-rule : goal.another-requires-clause-rule
another-requires-clause-rule g c = forks g.B.Crew.asked.crew _ _ (omega arith) c.loop.invariant.has

pub loop-preserved : goal.loop-preserved
loop-preserved g c =
    let i = c.loop.invariant in
    let fewer = c.another.ensures.rule.0 in
    let same = c.another.ensures.queue in
    record {
      ready = from_push (IsReady g.B.Crew.asked (Some c.another.new.pass.table_id)) 0 c.loop.all.items _
          (share.Queue c.args.queue c.another.result None) c.push_reserved.ensures.items (rw same.0.0 i.ready) (record {
            made = (c.requires.sharing, same.1, (c.another.ensures.rule.1, refl), tt);
            uses = cc;
          });
      count = search rules;
      room = search rules;
      pass = search rules;
      has = rw fewer i.has;
      left = rw fewer (omega arith);
    }

-- as all of them use one queue the first does
first_uses : {B : Type 0} (asked : Asked) (queue : Option TableId) (all : List (Share B)) → 0 < length all
    → AreReady asked queue all → queue_of_all all ≡ queue
first_uses asked queue [] some ready = absurd (omega arith)
first_uses asked queue (own ∷ rest) some ready = ready.0.uses

pub returns-clause-shares : goal.returns-clause-shares
returns-clause-shares g c =
    let i = c.loop.invariant in
    let workers = c.requires.workers in
    let count : length c.loop.all.items ≡ c.args.workers = search rules in
    let uses = first_uses g.B.Crew.asked (Some c.loop.pass.table_id) c.loop.all.items (omega arith) i.ready in (
      record {
        some = omega arith;
        few = omega arith;
        count = cc;
        ready = rw uses i.ready;
      },
      uses,
    )

pub returns-clause-back : goal.returns-clause-back
returns-clause-back g c =
    let i = c.loop.invariant in
    let all : c.loop.counter ≡ c.args.workers = search rules in
    let empty : c.in_ok-row.row.items ≡ [] = search rules in (
      c.requires.sharing,
      i.pass,
      record {
        speaks = omega arith;
        has = rw empty i.has.0;
        ours = rw empty (All-nil (IsOurs g.B.Crew.asked.crew));
        room = search rules;
        turns = rw empty (omega arith);
      },
    )
