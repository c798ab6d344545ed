use Rattle.std.proofs.Common.{◌≡◌, rules, inl, refl, Err}
use Rattle.chip_command.specs.declared.fault.Fault.TheVariants.{Open}
use Rattle.chip_console.proofs.console.Console.play.Goals as goal

pub returns-in_err-open-in-Some : goal.returns-in_err-open-in-Some
returns-in_err-open-in-Some g c =
    let n = c.in-Some.file.number in
    let failed : c.from_residual-in_err-open-in-Some.result ≡ Err (Open n) = search rules in
    rw c.in-Some.is (inl (n, (2, search rules, search rules), failed, refl))
