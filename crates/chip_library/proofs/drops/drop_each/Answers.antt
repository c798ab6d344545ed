use Rattle.std.proofs.Common.{ℕ, [], ◌∷◌, ◌++◌, get_or, sym, arith, inr}
use Rattle.std.proofs.lemmas.List.{take_more, length_push}
use Rattle.std.proofs.lemmas.Option.{MatchOption-at_none, MatchOption-at_some}
use Rattle.chip_library.specs.Drops.{Told}
use Rattle.chip_library.proofs.DropLemmas.{leaves_more, all_more, on_more, told_in_columns, fault_after, stopped_there, pile_ends}
use Rattle.chip_library.proofs.drops.drop_each.Goals as goal

pub returns-then-vertex-vertices : goal.returns-then-vertex-vertices
returns-then-vertex-vertices c =
    let (told, long, leaves, on, columns, room) = c.loop-drop.invariant in
    let vertices = c.requires.vertices in
    inr (
      told,
      c.loop-drop.pile,
      leaves,
      fault_after _ _ _ told _ _ long c.loop-drop-test.true on (sym long, omega arith),
    )

pub returns-then-count-room : goal.returns-then-count-room
returns-then-count-room c =
    let (told, long, leaves, on, columns, room) = c.loop-drop.invariant in
    let vertices = c.requires.vertices in
    let total = leaves.game.total in
    inr (
      told,
      c.loop-drop.pile,
      leaves,
      fault_after _ _ _ told _ _ long c.loop-drop-test.true on (sym long, omega arith, omega arith),
    )

pub returns-in_default : goal.returns-in_default
returns-in_default c =
    let (told, long, leaves, on, columns, room) = c.loop-drop.invariant in
    let vertices = c.requires.vertices in
    let next = c.drop_chips-next.ensures in
    let legal = rw (← next.game.same_graph) at (MatchOption-at_none _ _ c.in_default.is next.avalanche) in
    inr (
      told,
      c.loop-drop.pile,
      leaves,
      fault_after _ _ _ told _ _ long c.loop-drop-test.true on (
        sym long,
        omega arith,
        c.drop_chips-next.result.0.game,
        all_more _ told _ leaves _ _ next.game,
        next.pile.game,
        stopped_there _ _ (pile_ends _ next.pile) legal,
      ),
    )

pub loop-drop-preserved : goal.loop-drop-preserved
loop-drop-preserved c =
    let (told, long, leaves, on, columns, room) = c.loop-drop.invariant in
    let i : ℕ = c.loop-drop.drop in
    let vertices = c.requires.vertices in
    let each = c.requires.amounts_each in
    let next = c.drop_chips-next.ensures in
    let total = next.game.total in
    let t : Told = ((get_or c.args.at.now i 0, get_or c.args.amounts.now i 0), c.in-Some.avalanche) in (
      told ++ t ∷ [],
      omega (arith, length_push told t),
      leaves_more _ told _ leaves t (omega arith) _ next.pile next.game
          (MatchOption-at_some _ _ _ c.in-Some.is next.avalanche),
      rw (take_more c.args.at.now i 0 (omega arith), take_more c.args.amounts.now i 0 (omega arith)) (on_more told _ _ on t),
      rw (c.in_ok-push.ensures.sizes, c.in_ok-push.ensures.extents, c.in_ok-push.ensures.losts)
          (told_in_columns told _ _ _ columns t),
      omega arith,
    )
