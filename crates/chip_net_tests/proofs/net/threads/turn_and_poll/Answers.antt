use denote.Param.Send.{sendable}
use Rattle.std.proofs.Crossing.{crosses}
use Rattle.chip_net.proofs.CrossingLemmas.{net_crosses}
use Rattle.chip_net_tests.proofs.net.threads.turn_and_poll.Goals as goal

pub join-root-requires-send-F : goal.join-root-requires-send-F
join-root-requires-send-F g c κs within = search (crosses, sendable, net_crosses, c.type_bounds.sync-R) depth 60

pub join-root-requires-send-A : goal.join-root-requires-send-A
join-root-requires-send-A g c κs within = search (crosses, sendable, net_crosses) depth 60
