use Rattle.std.proofs.Common.{◌≡◌, ℕ, ◌+◌, ◌<◌, ◌^◌, sum, take, slice_index}
use Rattle.chip_library.proofs.kept.fault_of_columns.Given as goal

abbrev pub invariant-loop-drop : goal.invariant-loop-drop
invariant-loop-drop l = ((i : ℕ) → i < l.drop → slice_index l.at i < l.vertices)
    × (l.room + sum l.game.start + sum (take l.drop l.amounts) ≡ 2 ^ 40)
