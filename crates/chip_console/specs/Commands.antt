-- The results of a command for its arguments: one of its files could not be opened, or those of its engine, by the
-- limits and options of the arguments, for the bytes of their files.
use Rattle.std.specs.Prelude.{◌≡◌, ◌⊎◌, ◌∷◌, [], ℕ, List, Contains, IsErr, IsOk, IsSome, Option, Some}
use Rattle.std.specs.Prelude.{None, MatchOption, Result, Err, is_some, option_map}
use Rattle.chip_arguments.specs.declared.arguments.FileArgument.{FileArgument}
use Rattle.chip_arguments.specs.declared.arguments.GameArguments.{GameArguments}
use Rattle.chip_arguments.specs.declared.arguments.GraphArguments.{GraphArguments}
use Rattle.chip_arguments.specs.declared.arguments.PlainArguments.{PlainArguments}
use Rattle.chip_arguments.specs.declared.arguments.AvalancheArguments.{AvalancheArguments}
use Rattle.chip_arguments.specs.declared.arguments.SimulationArguments.{SimulationArguments}
use Rattle.chip_arguments.specs.declared.arguments.RunArguments.{RunArguments}
use Rattle.chip_arguments.specs.declared.arguments.ReplayArguments.{ReplayArguments}
use Rattle.chip_arguments.specs.declared.arguments.VerifyArguments.{VerifyArguments}
use Rattle.chip_arguments.specs.declared.arguments.JudgeArguments.{JudgeArguments}
use Rattle.chip_command.specs.declared.ended.Ended.{Ended}
use Rattle.chip_command.specs.declared.fault.Fault.{Fault}
use Rattle.chip_command.specs.declared.fault.Fault.TheVariants.{Open, Usage, WriteFile}
use Rattle.chip_command.specs.PlainCommand.{PlainAnswers}
use Rattle.chip_engine.specs.AvalanchesCommand.{AvalanchesAnswers}
use Rattle.chip_engine.specs.CheckCommand.{CheckAnswers}
use Rattle.chip_engine.specs.GuessCommand.{GuessAnswers}
use Rattle.chip_engine.specs.RecurrentCommand.{RecurrentAnswers, IdentityAnswers}
use Rattle.chip_engine.specs.ReplayCommand.{ReplayAnswers}
use Rattle.chip_engine.specs.ResumeCommand.{ResumeAnswers}
use Rattle.chip_engine.specs.SimulateCommand.{SimulateAnswers}
use Rattle.chip_engine.specs.VerifyCommand.{VerifyAnswers}
use Rattle.chip_engine.specs.JudgeCommand.{JudgeAnswers}
use Rattle.chip_run.specs.RunCommand.{RunReads}
use Rattle.chip_console.specs.Options.{limits_of, judge_options, replay_options, run_options, simulate_options}

-- the bytes that a file of an argument gives, where they are known
abbrev pub Known : Type 0
Known = FileArgument → Option (List ℕ)

-- one of these files could not be opened, and nothing is written
abbrev pub IsUnopened : List ℕ → Option (List ℕ) → Option (List ℕ) → Result Ended Fault → Type 0
IsUnopened numbers old new result = (n : ℕ) × Contains numbers n × (result ≡ Err (Open n)) × (new ≡ old)

abbrev pub ChecksFiles : Known → GraphArguments → Option (List ℕ) → Option (List ℕ) → Result Ended Fault → Type 0
ChecksFiles known asked old new result = IsUnopened (asked.graph.number ∷ []) old new result
    ⊎ CheckAnswers (limits_of asked.large) (known asked.graph) old new result

-- without a guess, or with this one
abbrev pub PlaysWith : Option FileArgument → Known → GameArguments → Option (List ℕ) → Option (List ℕ)
    → Result Ended Fault → Type 0
PlaysWith None known asked old new result = IsUnopened (asked.graph.number ∷ asked.start.number ∷ []) old new result
    ⊎ PlainAnswers (limits_of asked.large) (known asked.graph) (known asked.start) asked.limit old new result
PlaysWith (Some guess) known asked old new result =
    IsUnopened (asked.graph.number ∷ asked.start.number ∷ guess.number ∷ []) old new result
    ⊎ GuessAnswers (limits_of asked.large) (known asked.graph) (known asked.start) (known guess) asked.limit old new result

abbrev pub PlaysFiles : Known → PlainArguments → Option (List ℕ) → Option (List ℕ) → Result Ended Fault → Type 0
PlaysFiles known asked old new result = PlaysWith asked.guess known asked.game old new result

-- a file could not be opened, that of the report too, or there is no memory to try its place; and nothing is written
abbrev pub DropsNothing : AvalancheArguments → Option (List ℕ) → Option (List ℕ) → Result Ended Fault → Type 0
DropsNothing asked old new result =
    IsUnopened (asked.game.graph.number ∷ asked.game.start.number ∷ asked.drops.number ∷ []) old new result
    ⊎ (IsSome asked.report × IsErr result × (new ≡ old))

-- the report is moved to its place, or it cannot be
abbrev pub IsPut : Result Ended Fault → Result Ended Fault → Type 0
IsPut ended result = (result ≡ ended) ⊎ (IsOk ended × (result ≡ Err WriteFile))

-- the result of the engine, with a report if asked, and that is moved to its place
abbrev pub DropsAll : Known → AvalancheArguments → Option (List ℕ) → Option (List ℕ) → Result Ended Fault → Type 0
DropsAll known asked old new result =
    (ended : Result Ended Fault) × (before : Option (Option (List ℕ))) × (after : Option (Option (List ℕ)))
    × (is_some before ≡ is_some asked.report)
    × AvalanchesAnswers (limits_of asked.game.large) (known asked.game.graph) (known asked.game.start)
    (known asked.drops) asked.game.limit (record { rows = old; report = before }) (record { rows = new; report = after })
    ended × IsPut ended result

abbrev pub DropsFiles : Known → AvalancheArguments → Option (List ℕ) → Option (List ℕ) → Result Ended Fault → Type 0
DropsFiles known asked old new result = DropsNothing asked old new result ⊎ DropsAll known asked old new result

abbrev pub RepresentsFiles : Known → GameArguments → Option (List ℕ) → Option (List ℕ) → Result Ended Fault → Type 0
RepresentsFiles known asked old new result = IsUnopened (asked.graph.number ∷ asked.start.number ∷ []) old new result
    ⊎ RecurrentAnswers (limits_of asked.large) (known asked.graph) (known asked.start) old new result

abbrev pub IdentifiesFiles : Known → GraphArguments → Option (List ℕ) → Option (List ℕ) → Result Ended Fault → Type 0
IdentifiesFiles known asked old new result = IsUnopened (asked.graph.number ∷ []) old new result
    ⊎ IdentityAnswers (limits_of asked.large) (known asked.graph) old new result

abbrev pub SimulatesFiles : Known → SimulationArguments → Option (List ℕ) → Option (List ℕ) → Result Ended Fault → Type 0
SimulatesFiles known asked old new result = MatchOption (simulate_options asked) ((result ≡ Err Usage) × (new ≡ old))
    (λ options.
    IsUnopened (asked.game.graph.number ∷ asked.game.start.number ∷ asked.schedule.number ∷ []) old new result
    ⊎ SimulateAnswers (known asked.game.graph) (known asked.game.start) (known asked.schedule) options old new result)

-- the file of an option could not be opened
abbrev pub IsUnopenedOption : Option FileArgument → Fault → Type 0
IsUnopenedOption None fault = ⊥
IsUnopenedOption (Some file) fault = fault ≡ Open file.number

-- a file could not be opened, that of the trace too, and nothing is written
abbrev pub RunsNothing : RunArguments → Option (List ℕ) → Option (List ℕ) → Result Ended Fault → Type 0
RunsNothing asked old new result =
    IsUnopened (asked.game.graph.number ∷ asked.game.start.number ∷ []) old new result
    ⊎ ((fault : Fault) × (IsUnopenedOption asked.feed fault ⊎ IsUnopenedOption asked.trace fault)
    × (result ≡ Err fault) × (new ≡ old))

-- the result of the engine, with a trace if asked
abbrev pub RunsAll : Known → RunArguments → Option (List ℕ) → Option (List ℕ) → Result Ended Fault → Type 0
RunsAll known asked old new result =
    let options = run_options asked in
    (before : Option (Option (List ℕ))) × (after : Option (Option (List ℕ))) × (is_some before ≡ is_some asked.trace)
    × RunReads options.limits options.sharing (known asked.game.graph) (known asked.game.start)
    (option_map known asked.feed) options.limit options.plan (record { report = old; trace = before })
    (record { report = new; trace = after }) result

abbrev pub RunsFiles : Known → RunArguments → Option (List ℕ) → Option (List ℕ) → Result Ended Fault → Type 0
RunsFiles known asked old new result = RunsNothing asked old new result ⊎ RunsAll known asked old new result

abbrev pub ReplaysFiles : Known → ReplayArguments → Option (List ℕ) → Option (List ℕ) → Result Ended Fault → Type 0
ReplaysFiles known asked old new result =
    IsUnopened (asked.game.graph.number ∷ asked.game.start.number ∷ asked.trace.number ∷ []) old new result
    ⊎ ReplayAnswers (known asked.game.graph) (known asked.game.start) (known asked.trace) (replay_options asked)
    old new result

abbrev pub ResumesFiles : Known → GameArguments → Option (List ℕ) → Option (List ℕ) → Result Ended Fault → Type 0
ResumesFiles known asked old new result = IsUnopened (asked.graph.number ∷ asked.start.number ∷ []) old new result
    ⊎ ResumeAnswers (limits_of asked.large) (known asked.graph) (known asked.start) asked.limit old new result

abbrev pub VerifiesFiles : Known → VerifyArguments → Option (List ℕ) → Option (List ℕ) → Result Ended Fault → Type 0
VerifiesFiles known asked old new result =
    IsUnopened (asked.game.graph.number ∷ asked.game.start.number ∷ asked.report.number ∷ []) old new result
    ⊎ VerifyAnswers (limits_of asked.game.large) (known asked.game.graph) (known asked.game.start) (known asked.report)
    asked.game.limit old new result

abbrev pub JudgesFiles : Known → JudgeArguments → Option (List ℕ) → Option (List ℕ) → Result Ended Fault → Type 0
JudgesFiles known asked old new result = IsUnopened (asked.log.number ∷ []) old new result
    ⊎ JudgeAnswers (known asked.log) (judge_options asked) old new result
