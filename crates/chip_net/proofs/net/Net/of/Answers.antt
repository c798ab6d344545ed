use Rattle.chip_net.proofs.net.Net.of.Goals as goal

pub returns : goal.returns
returns c = record {
  setting = c.in_ok-net.ensures.net;
  root = c.in_ok-root.ensures.root;
  count = rw c.in_ok-net.ensures.net at c.in_ok-root.ensures.count;
  actors = λ v l. c.in_ok-root.ensures.actors v (rw c.in_ok-net.ensures.net l);
  ours = c.in_ok-root.ensures.ours;
  stopper = c.in_ok-root.ensures.stopper;
}
