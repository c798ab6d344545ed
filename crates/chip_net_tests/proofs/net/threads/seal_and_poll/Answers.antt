use denote.Param.Send.{sendable}
use Rattle.std.proofs.Crossing.{crosses}
use Rattle.chip_net.proofs.CrossingLemmas.{net_crosses}
use Rattle.chip_net_tests.proofs.net.threads.seal_and_poll.Goals as goal

pub join-root-requires-send-F : goal.join-root-requires-send-F
join-root-requires-send-F g c κs within = search (crosses, sendable, net_crosses) depth 60
