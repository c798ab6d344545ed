use Rattle.std.specs.Prelude.{◌≡◌, Option, None, Some, is_some, option_map}
use Rattle.std.proofs.Common.{◌∙◌, inl, inr, refl, rules, Err}
use Rattle.chip_command.specs.declared.fault.Fault.TheVariants.{Open}
use Rattle.chip_console.proofs.console.Console.drop_chips.Goals as goal

-- whether there is a value stays, whatever is made of it
some_stays : {A B : Type 0} (f : A → B) (o : Option A) → is_some (option_map f o) ≡ is_some o
some_stays f None = refl
some_stays f (Some a) = refl

pub returns-in_err-drops : goal.returns-in_err-drops
returns-in_err-drops g c =
    let n = c.args.asked.now.drops.number in
    let failed : c.from_residual-in_err-drops.result ≡ Err (Open n) = search rules in
    inl (inl (n, (2, search rules, search rules), failed, refl))

pub returns-in-Some : goal.returns-in-Some
returns-in-Some g c =
    let opened = c.in_ok-graph.ensures.opened in
    let said = rw (opened.0, opened.1, c.in_ok-drops.ensures.opened, c.play_options.ensures)
    at c.avalanches_engine_with-ended.ensures in
    inr (
      c.avalanches_engine_with-ended.result,
      option_map (λ _. None) c.in_ok-report.report,
      option_map (λ _. None) c.avalanches_engine_with-ended.new.report,
      some_stays _ c.in_ok-report.report ∙ c.in_ok-report.ensures.opened,
      said,
      c.put.ensures,
    )

pub returns : goal.returns
returns g c =
    let opened = c.in_ok-graph.ensures.opened in
    let said = rw (opened.0, opened.1, c.in_ok-drops.ensures.opened, c.play_options.ensures)
    at c.avalanches_engine_with-ended.ensures in
    inr (
      c.avalanches_engine_with-ended.result,
      option_map (λ _. None) c.in_ok-report.report,
      option_map (λ _. None) c.avalanches_engine_with-ended.new.report,
      some_stays _ c.in_ok-report.report ∙ c.in_ok-report.ensures.opened,
      said,
      inl refl,
    )
