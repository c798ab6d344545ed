use denote.Param.Send.{sendable}
use Rattle.std.proofs.Crossing.{crosses}
use Rattle.chip_net.proofs.CrossingLemmas.{net_crosses}
use Rattle.chip_net_tests.proofs.net.threads.all_play.Goals as goal

pub join-root-requires-send-F : goal.join-root-requires-send-F
join-root-requires-send-F g c κs within = search (crosses, sendable, net_crosses, c.type_bounds.sync-R) depth 60
