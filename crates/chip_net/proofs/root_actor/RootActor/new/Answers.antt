use Rattle.chip_net.proofs.Names.{[]}
use Rattle.chip_net.proofs.root_actor.RootActor.new.Goals as goal

pub invariant_of-result : goal.invariant_of-result
invariant_of-result c =
    rw c.of.ensures (record {
      setting = c.requires.setting;
      has = rw c.requires.part;
      stands = rw c.requires.part c.in_ok-new.ensures;
      in_log = record { log = []; legal = tt; has = rw c.requires.part };
    })
