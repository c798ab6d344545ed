-- The place of an edge among the edges on one side of a vertex.
use Rattle.std.specs.Prelude.{◌≡◌, ℕ, ◌<◌, List, length, slice_index}
pub use Rattle.chip_detect.specs.declared.slot.Slot.{Slot}

-- the edge of the slot is at its index
pub record IsSlotOf (edges : List ℕ) (slot : Slot) : Type 0 where
  pub within : slot.index < length edges
  pub edge : slice_index edges slot.index ≡ slot.edge
