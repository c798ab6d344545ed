use Rattle.std.proofs.Common.{refl, inl, inr}
use Rattle.std.proofs.lemmas.Result.{err_from_is_err_and}
use Rattle.chip_file.specs.declared.fault.FileFault.TheVariants.{NoMemory}
use Rattle.chip_run.proofs.feeding.read_feeds.Goals as goal

pub returns-in_err-feeds_of : goal.returns-in_err-feeds_of
returns-in_err-feeds_of g c = λ text text_is.
    let p = err_from_is_err_and c.from_residual-in_err-feeds_of.result c.from_residual-in_err-feeds_of.ensures.1 in
    rw (p.1, p.2) (NoMemory, refl, inl (inr refl))
