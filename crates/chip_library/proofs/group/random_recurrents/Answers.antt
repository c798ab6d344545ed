use Rattle.std.proofs.Common.{◌≡◌, refl, rules, inr}
use Rattle.std.proofs.lemmas.Result.{err_from_is_err_and}
use Rattle.chip_library.proofs.group.random_recurrents.Goals as goal

pub returns-in_err-found : goal.returns-in_err-found
returns-in_err-found c =
    let p = err_from_is_err_and c.from_residual-in_err-found.result c.from_residual-in_err-found.ensures.1 in
    let (graph, good) = c.in_ok-graph.ensures in
    rw (p.1, p.2) (
      refl,
      inr (inr (
        c.has_rows.ensures.0 (search rules),
        rw graph at good,
        c.in_err-found.field-0.0,
        refl,
        rw graph at c.in_err-found.ensures.drawn,
      )),
    )
