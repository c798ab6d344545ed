-- What a box, or none, owns.
use Rattle.std.specs.Prelude.{Option, Some, None}
use base.Fml.{Fml, ftrue}
use denote.RawPtr.{Ptr}
use Rattle.std.specs.Box.Ownership.{box_owns}
use Rattle.std.specs.declared.alloc.Global.{Global}
use Rattle.std.specs.contracts.impls.GlobalAllocator.TheImpl.{ghosts}
use Rattle.chip_library.specs.KeptGames.{KeptGame}
use Rattle.chip_library.specs.contracts.kept.KeptPile.{the_row}

abbrev pub maybe_owns : Global → Ptr → Option KeptGame → Fml
maybe_owns a p None = ftrue
maybe_owns a p (Some x) = box_owns (ghosts.dealloc_token a) the_row p x
