use Rattle.std.proofs.Common.{◌≡◌, rules, inl, refl, Err}
use Rattle.chip_command.specs.declared.fault.Fault.TheVariants.{Open}
use Rattle.chip_console.proofs.console.Console.replay.Goals as goal

pub returns-in_err-trace : goal.returns-in_err-trace
returns-in_err-trace g c =
    let n = c.args.asked.now.trace.number in
    let failed : c.from_residual-in_err-trace.result ≡ Err (Open n) = search rules in
    inl (n, (2, search rules, search rules), failed, refl)
