use Rattle.std.proofs.Common.{◌≡◌, rules, inl, inr, refl, Err}
use Rattle.chip_command.specs.declared.fault.Fault.TheVariants.{Open}
use Rattle.chip_console.proofs.console.Console.verify.Goals as goal

pub returns-in_err-graph : goal.returns-in_err-graph
returns-in_err-graph g c = elim c.in_err-graph.ensures.refused [
  | inl at_graph ↦
      let n = c.args.asked.now.game.graph.number in
      let failed : c.from_residual.result ≡ Err (Open n) = search rules in
      inl (n, (0, search rules, search rules), failed, refl)
  | inr at_start ↦
      let n = c.args.asked.now.game.start.number in
      let failed : c.from_residual.result ≡ Err (Open n) = search rules in
      inl (n, (1, search rules, search rules), failed, refl)
]

pub returns-in_err-report : goal.returns-in_err-report
returns-in_err-report g c =
    let n = c.args.asked.now.report.number in
    let failed : c.from_residual-in_err-report.result ≡ Err (Open n) = search rules in
    inl (n, (2, search rules, search rules), failed, refl)
