use Rattle.chip_flooding.proofs.Names.{◌≤◌, ◌-◌, ℕ, true, false, cond, set, sym, ap, ◌∙◌, arith, nat_tests, get_or_read}
use Rattle.chip_flooding.proofs.Names.{set-get_or, sum_by-set, IsFlooding, net, world}
use Rattle.chip_flooding.proofs.FloodLemmas.{gets, rests, answers, one_due}
use Rattle.chip_flooding.proofs.flooding.Marking.turn.Goals as goal
use Rattle.chip_flooding.proofs.flooding.Marking.turn.Goals.{After-index-2}

-- it acknowledges
pub returns-then-index-gt0-clause-flooded : goal.returns-then-index-gt0-clause-flooded
returns-then-index-gt0-clause-flooded c = let m = c.args.self.now in let acks = c.acknowledge-count.ensures.runs in
    let is = one_due m c.args.edge _ c.requires.edge c.requires.due c.requires.flooded c.index.ensures c.if-index-gt0.true in
    rw (c.settle.ensures.topology, acks.topology) (answers _ _ _ _ _ _ c.args.edge _ c.requires.edge is.1
    (c.acknowledge-count.ensures.count ∙ is.0) c.requires.flooded acks.happens (rw acks.topology at c.settle.ensures.happens))

pub returns-then-index-gt0-clause-less : goal.returns-then-index-gt0-clause-less
returns-then-index-gt0-clause-less c = let m = c.args.self.now in
    let is = one_due m c.args.edge _ c.requires.edge c.requires.due c.requires.flooded c.index.ensures c.if-index-gt0.true in
    let sum = sum_by-set (λ (n : ℕ). 2 - n) m.done.items c.args.edge 2 0 (omega arith) in omega arith

-- it gets a message
gotten : (c : After-index-2) → c.index.result.now ≤ 0 → let m = c.args.self.now in let p = c.index-head.result.now in
    IsFlooding (net m.run) (world c.get.new.self) (set m.marked.items p true) (set m.done.items c.args.edge 1) p
    (cond c.index-2.result.now (net m.run).edges 0)
gotten c off = let m = c.args.self.now in let e = c.args.edge in let l = c.requires.edge in let was = c.requires.flooded in
    let same = c.topology.ensures.same in let is = rw same at c.topology.ensures.topology in let part = is.network.heads e l in
    let done = get_or_read m.done.items e _ (omega arith) c.index.ensures 0 in
    let head = get_or_read m.run.topology.heads.items e _ (omega arith) (rw same at c.index-head.ensures) 0 in
    let mark = get_or_read m.marked.items c.index-head.result.now _ (omega arith) c.index-2.ensures false in
    gets _ _ _ _ _ e _ _ l head (omega arith) mark (grind (arith, nat_tests)) (omega arith) was c.get.ensures.runs.happens

pub returns-then-index-clause-flooded : goal.returns-then-index-clause-flooded
returns-then-index-clause-flooded c = let gets = c.get.ensures.runs in let rest = c.rest.ensures.runs in
    let marked = c.args.self.now.marked.items in let p = c.index-head.result.now in
    let again = ap (set marked p) (sym c.if-index.true ∙ c.index-2.ensures) ∙ set-get_or marked p c.index-2.result.now in
    rw (rest.topology, gets.topology) (rw again at (rests _ _ _ _ _ p _ (rw c.if-index.true (omega arith))
    (gotten (goal.at.returns-then-index-clause-flooded c).After-index-2 c.if-index-gt0.false)
    (rw gets.topology at rest.happens) c.rest.ensures.passive))

pub start-requires-clause-flooding : goal.start-requires-clause-flooding
start-requires-clause-flooding c = rw c.get.ensures.runs.topology (rw c.if-index.false at
    (gotten (goal.at.start-requires-clause-flooding c).After-index-2 c.if-index-gt0.false))
