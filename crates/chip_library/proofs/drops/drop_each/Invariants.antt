use Rattle.std.proofs.Common.{◌≡◌, ◌+◌, ◌^◌, List, length, take, sum}
use Rattle.chip_library.specs.Drops.{Told, Leaves, AreOn, AreTold}
use Rattle.chip_library.proofs.drops.drop_each.Given as goal

abbrev pub invariant-loop-drop : goal.invariant-loop-drop
invariant-loop-drop l =
    (told : List Told) × (length told ≡ l.drop) × Leaves l.fn.pile told l.pile
    × AreOn told (take l.drop l.at) (take l.drop l.amounts)
    × AreTold told l.told.sizes.items l.told.extents.items l.told.losts.items
    × (l.room + sum l.pile.game.start ≡ 2 ^ 40)
