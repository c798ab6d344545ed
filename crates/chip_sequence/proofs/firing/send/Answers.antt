use Rattle.std.proofs.Common.{◌<◌, length, arith}
use Rattle.chip_sequence.proofs.BatchLemmas.{link_at, sent_each, sent_all}
use Rattle.chip_sequence.proofs.firing.send.Goals as goal

pub loop-link-preserved : goal.loop-link-preserved
loop-link-preserved c =
    let inside : c.loop-link.link-index < length c.args.links.now = c.loop-link-test.true in
    let head_in : (link_at c.args.links.now c.loop-link.link-index).head < length c.loop-link.position =
    omega (arith, c.requires.heads c.loop-link.link-index (record { head = 0; mult = 0 }) inside) in
    rw c.from.ensures (record {
      each = sent_each _ c.args.k c.args.position.now _ _ inside head_in c.loop-link.invariant.each;
      all = sent_all _ c.args.k c.args.position.now _ _ inside head_in c.loop-link.invariant.all;
    })
