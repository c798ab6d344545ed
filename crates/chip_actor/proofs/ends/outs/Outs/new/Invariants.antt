use Rattle.chip_actor.proofs.Names.{◌≡◌, map, take, fresh_out}
use Rattle.chip_actor.proofs.ends.outs.Outs.new.Given as goal

abbrev pub invariant-loop-edge : goal.invariant-loop-edge
invariant-loop-edge l = l.ends.items ≡ map (fresh_out l.graph l.ring) (take l.edge-index l.numbers)
