-- A pile may go to another thread, since each of its fields may.
use Rattle.std.specs.Prelude.{Option, None, Some}
use base.Fraction.{full_share}
use base.Shift.{Keyless}
use mir.Raw.{raw}
use denote.Exit.{Exit, unchanged, leaves, hidden, under}
use denote.RattleType.{RattleType}
use denote.Memory.{lone}
use denote.RawPtr.{Ptr, block_ptr, null_ptr, lies_at}
use denote.Builtin.{RawPtr}
use denote.Struct.Struct.{exits_of}
use denote.Struct.Owning.{shape, fields, to}
use denote.Param.Send.{IsSend, Quiet, part_keyless, owning_send, struct_send, sendable}
use Rattle.std.proofs.Crossing.{crosses, frees}
use Rattle.std.specs.declared.alloc.Global.{Global}
use Rattle.std.specs.contracts.alloc.Global as heap
use Rattle.chip_handle.specs.Maybe.{maybe_owns}
use Rattle.chip_library.specs.KeptGames.{KeptGame}
use Rattle.chip_library.specs.contracts.kept.KeptPile as kept
use Rattle.chip_handle.specs.contracts.raw.Raw.{the_row, the_type}

quiet : {D X : Type 0} (to : D → X) (e : Exit X) → Quiet e → Quiet (hidden (under to e))
quiet to unchanged q = λ x w. tt
quiet to (leaves L l S s r₀) q = λ d. q (to d)

lies : (R : RattleType) → IsSend R → (p : Ptr) (x : R.Denot) → Keyless (lies_at R full_share p x)
lies R s (block_ptr b o) x = part_keyless R s full_share x b o
lies R s null_ptr x = tt

kept_send : IsSend kept.the_row
kept_send = search (sendable, crosses) depth 80 fits 200000

keyless : (a : Global) (p : Ptr) (v : Option KeptGame) → Keyless (maybe_owns a p v)
keyless a p None = tt
keyless a p (Some x) = (lies kept.the_row kept_send p x, frees.frees a (raw (lone (kept.the_row).mir)) p)

pub send : IsSend the_row
send =
    let ps : IsSend RawPtr = search sendable in
    let gs : IsSend (heap.the_field).row = search (sendable, crosses) in
    owning_send the_type (ps, (gs, tt)) (λ d. keyless d.alloc d.at d.value)
    (λ k. quiet (to the_type) (exits_of k (fields the_type)) ((struct_send (shape the_type) (ps, (gs, tt))).leaving k))
