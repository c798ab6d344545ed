use Rattle.std.proofs.Common.{refl, rules, inr}
use Rattle.std.proofs.lemmas.Result.{err_from_is_err_and}
use Rattle.chip_library.proofs.kept.KeptPile.draw.Goals as goal

pub returns-in_err-found-clause-drawn : goal.returns-in_err-found-clause-drawn
returns-in_err-found-clause-drawn c =
    let p = err_from_is_err_and c.from_residual.result c.from_residual.ensures.1 in
    let fault = rw c.in_err-found.was at c.replace_with.ensures.1 in
    let all = rw (c.vertices.ensures.value, c.graph.ensures.value, c.game.ensures) at (c.are_rows.ensures.0 (search rules)) in
    rw (p.1, p.2) (refl, inr (all, c.in_err-found.field-0.0, refl, fault))
