use Rattle.std.proofs.Common.{◌≡◌, ◌<◌, ◌++◌, length, take, drop, sym, ap, ◌∙◌, arith}
use Rattle.std.proofs.lemmas.Grind.{common_steps}
use Rattle.chip_fire.proofs.ListedLemmas.{the_legal_if, none_counted}
use Rattle.chip_fire.proofs.avalanche.work_from.Goals as goal

pub work_off-worked-requires-clause-legal : goal.work_off-worked-requires-clause-legal
work_off-worked-requires-clause-legal c =
    let test = rw c.graph-graph.ensures.value at c.is_legal.ensures in
    rw (c.from-listed.ensures, c.deref_mut-2.ensures.value) (the_legal_if _ _ _ _ c.is_legal.result (λ is. test.0 is)
    (λ can. test.1 can) (let a = c.requires.room.list_room in let b = c.requires.is_vertex in omega arith) c.requires.legal)

pub returns-then-worked-eq0-clause-worked : goal.returns-then-worked-eq0-clause-worked
returns-then-worked-eq0-clause-worked c =
    let room = c.requires.room in
    let before = ap length room.before in
    let each = c.requires.begun.in_range.fired_each in
    let some : 0 < length c.deref.result.now =
    (let a = ap length c.deref.ensures.value in let b = c.requires.is_vertex in omega arith) in
    let found = c.work_off-worked.ensures.noted some c.if-worked-eq0.true in
    let same : take c.args.room.now.support.len (c.work_off-worked.new.support
    ++ drop (length c.work_off-worked.new.support) c.args.room.now.support.items) ≡ c.work_off-worked.new.support =
    grind (arith, common_steps) in
    rw same (
      found.fits,
      none_counted _ _ (sym c.work_off-worked.ensures.legal ∙ c.if-worked-eq0.true),
      rw c.deref.ensures.value at found.has,
    )
