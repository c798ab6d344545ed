use denote.Param.Send.{sendable}
use Rattle.std.proofs.Crossing.{crosses}
use Rattle.chip_net.proofs.CrossingLemmas.{net_crosses}
use Rattle.chip_net_tests.proofs.net.threads.two_turn.Goals as goal

pub join-requires-send-F : goal.join-requires-send-F
join-requires-send-F g c κs within = search (crosses, sendable, net_crosses) depth 60
