use Rattle.std.proofs.Common.{◌≡◌, rules, inl, refl, Err}
use Rattle.chip_command.specs.declared.fault.Fault.TheVariants.{Open}
use Rattle.chip_console.proofs.console.Console.simulate.Goals as goal

pub returns-in_err-schedule : goal.returns-in_err-schedule
returns-in_err-schedule g c =
    let n = c.args.asked.now.schedule.number in
    let failed : c.from_residual-in_err-schedule.result ≡ Err (Open n) = search rules in
    rw (← c.simulate_options.ensures, c.in-Some.is) (inl (n, (2, search rules, search rules), failed, refl))
