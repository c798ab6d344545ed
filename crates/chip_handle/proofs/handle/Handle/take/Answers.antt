use Rattle.std.proofs.Common.{arith}
use Rattle.chip_handle.proofs.HandleLemmas.{some_of}
use Rattle.chip_handle.proofs.handle.Handle.take.Goals as goal

pub into_loose-requires : goal.into_loose-requires
into_loose-requires c =
    let is = c.replace-full.result.is in
    let full = c.if-full-eq0.false in some_of c.replace-full.result.raw.value (λ none. absurd (omega arith))
