use Rattle.chip_net.proofs.Names.{◌≡◌, [], ◌∷◌, ◌++◌, length-append, append_assoc, append-nil}
use Rattle.chip_net.proofs.Names.{◌∙◌, arith, newcomer}
use Rattle.chip_net.proofs.ViewingLemmas.{pushed_each}
use Rattle.chip_net.proofs.open.all_actors.Goals.{then-len-eq256+in_ok-box_all+in_ok-run-2, else-len-eq256}
use Rattle.chip_net.proofs.open.all_actors.Goals as goal

pub loop-vertex-preserved : goal.loop-vertex-preserved
loop-vertex-preserved c =
    let i = c.loop-vertex.invariant in
    let old = c.loop-vertex.actors.items in
    let made = old ++ c.loop-vertex.run.items in
    let one = c.in_ok-one_owned.field-0 in
    let pushed : c.if-len-eq256.actors.items ++ c.if-len-eq256.run.items ≡ made ++ one ∷ [] =
    rw (append_assoc old, ← c.in_ok-push.ensures.items) (elim c.if-len-eq256.branch [
      | then-len-eq256+in_ok-box_all+in_ok-run-2 w ↦
          rw (w.actors-is, w.run-is, w.in_ok-run-2.ensures.items, append-nil) w.in_ok-box_all.ensures
      | else-len-eq256 w ↦ rw (w.actors-is, w.run-is)
    ]) in
    record {
      table = c.one_owned.ensures.table ∙ i.table;
      parts = λ p l m. c.one_owned.ensures.others p (omega arith) ∙ i.parts p (omega arith) m;
      count = rw (pushed, length-append made) (let n = i.count in omega arith);
      made = rw pushed (pushed_each (newcomer c.args.net.now c.args.trace_rows) made one c.loop-vertex.vertex i.count
          i.made c.in_ok-one_owned.ensures.actor);
    }
