use Rattle.chip_net.proofs.OpeningLemmas.{opens}
use Rattle.chip_net.proofs.net.Net.lay_out.Goals as goal

pub of_words-requires : goal.of_words-requires
of_words-requires c = rw c.of-key.ensures (opens c.args.setting c.ring-ring.ensures.setting c.deref.result.now
    (rw c.deref.ensures.value c.in_ok-opening.ensures))
