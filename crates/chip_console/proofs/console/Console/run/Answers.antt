use denote.Ref.{MutBor}
use Rattle.std.specs.Prelude.{◌≡◌, ℕ, List, Option, None, Some, Result, Ok, Err, IsErr, is_some, option_map}
use Rattle.std.proofs.Common.{◌∙◌, ap, inl, inr, refl, rules}
use Rattle.chip_command.specs.declared.ended.Ended.{Ended}
use Rattle.chip_command.specs.declared.fault.Fault.{Fault}
use Rattle.chip_run.specs.RunCommand.{ReportsSomeRun}
use Rattle.chip_console.proofs.console.Console.run.Goals as goal

-- whether there is a value stays, whatever is made of it
some_stays : {A B : Type 0} (f : A → B) (o : Option A) → is_some (option_map f o) ≡ is_some o
some_stays f None = refl
some_stays f (Some a) = refl

-- what is made of what is lent is made of what it refers to
of_lent : {A B : Type 0} (f : A → B) (o : Option (MutBor A))
    → option_map (λ r. f r.now) o ≡ option_map f (option_map (λ r. r.now) o)
of_lent f None = refl
of_lent f (Some r) = refl

-- a command that failed before it wrote
nothing_out : (bytes : Option (List ℕ)) (result : Result Ended Fault) → IsErr result → ReportsSomeRun bytes bytes result
nothing_out bytes (Ok ended) failed = absurd (cc failed)
nothing_out None (Err fault) failed = inl tt
nothing_out (Some xs) (Err fault) failed = inl refl

pub returns-in_err-feed-clause-any : goal.returns-in_err-feed-clause-any
returns-in_err-feed-clause-any g c = nothing_out _ c.from_residual-in_err-feed.result (search rules)

pub returns-in_err-trace-clause-any : goal.returns-in_err-trace-clause-any
returns-in_err-trace-clause-any g c = nothing_out _ c.from_residual-in_err-trace.result (search rules)

pub returns-clause-known : goal.returns-clause-known
returns-clause-known g c =
    let opened = c.in_ok-graph.ensures.opened in
    let feed : option_map (λ r. g.O.File.Read.remaining r.now) c.as_mut.result
    ≡ option_map g.O.Opener.known c.args.asked.now.feed =
    of_lent g.O.File.Read.remaining c.as_mut.result
    ∙ ap (option_map g.O.File.Read.remaining) c.as_mut.ensures.value ∙ c.in_ok-feed.ensures.opened in
    let said = rw (opened.0, opened.1, feed, c.run_options.ensures) at c.run_engine_with.ensures.known in
    inr (_, _, some_stays _ c.in_ok-trace.trace ∙ c.in_ok-trace.ensures.opened, said)
