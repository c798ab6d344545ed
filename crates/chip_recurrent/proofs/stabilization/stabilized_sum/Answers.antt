use Rattle.std.proofs.lemmas.Result.{err_from_is_err_and}
use Rattle.chip_recurrent.proofs.stabilization.stabilized_sum.Goals as goal

pub returns-in_err-end : goal.returns-in_err-end
returns-in_err-end c = λ x same.
    let p = err_from_is_err_and c.from_residual.result c.from_residual.ensures.1 in
    rw (p.1, p.2) (c.in_err-end.ensures.end x same)

pub returns : goal.returns
returns c = λ x same. (c.in_ok-end.ensures.graph, c.in_ok-end.ensures.end x same)
