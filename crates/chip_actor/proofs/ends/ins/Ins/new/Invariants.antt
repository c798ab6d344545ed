use Rattle.chip_actor.proofs.Names.{◌≡◌, map, take, new_head}
use Rattle.chip_actor.proofs.ends.ins.Ins.new.Given as goal

abbrev pub invariant-loop-edge : goal.invariant-loop-edge
invariant-loop-edge l = l.ends.items ≡ map (λ e. new_head e l.ring) (take l.edge-index l.numbers)
