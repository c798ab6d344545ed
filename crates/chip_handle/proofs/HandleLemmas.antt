-- Serves Handles.antt.
-- When there is a pile.
use Rattle.std.proofs.Common.{◌≡◌, Option, Some, None, refl}
use Rattle.chip_library.specs.KeptGames.{KeptGame}
use Rattle.chip_handle.specs.Handles.{number_of_piles}

-- there is one if the number is not 0
pub some_of : (v : Option KeptGame) → (number_of_piles v ≡ 0 → ⊥) → (x : KeptGame) × (v ≡ Some x)
some_of None not = absurd (not refl)
some_of (Some x) not = (x, refl)
