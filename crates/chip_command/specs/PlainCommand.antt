-- From the bytes of a graph file and a chips file to those of a report.
use Rattle.std.specs.Prelude.{◌≡◌, ℕ, List, Option, Result, IfOk}
use Rattle.std.specs.Option.{ForSome}
use Rattle.std.specs.Io.KnownBytes.{Appends}
use Rattle.chip_graph.specs.Limits.{SizeLimits}
use Rattle.chip_graph.specs.ChipGame.{ChipGame}
use Rattle.chip_command.specs.CommandAnswers.{Spec, bind, CommandAnswers}
use Rattle.chip_command.specs.Inputs.{MeansGame, reading_game}
use Rattle.chip_command.specs.Reports.{Reports}
use Rattle.chip_command.specs.declared.ended.Ended.{Ended}
use Rattle.chip_command.specs.declared.fault.Fault.{Fault}
use Rattle.chip_command.specs.declared.fault.Fault.TheVariants.{NoMemory}

-- playing a game to its end gives its report and status; or there is no memory
abbrev pub playing : ChipGame → Spec (List ℕ × ℕ)
playing g = record { gives = λ (text, status). Reports g text status; refuses = λ fault. fault ≡ NoMemory }

-- the results of `plain`: the report of the game of its inputs
abbrev pub plain_spec : SizeLimits → Option (List ℕ) → Option (List ℕ) → ℕ → Spec (List ℕ × ℕ)
plain_spec limits graph chips limit = bind (reading_game limits graph chips limit) playing

-- the results of `plain` by these limits, for readers whose texts may be known
abbrev pub PlainAnswers : SizeLimits → Option (List ℕ) → Option (List ℕ) → ℕ → Option (List ℕ) → Option (List ℕ)
    → Result Ended Fault → Type 0
PlainAnswers limits graph chips limit old new result =
    CommandAnswers (plain_spec limits graph chips limit) old new result

-- what `plain` wrote that ended well: the report of the game of these texts, and its status
abbrev pub PlainWrites : SizeLimits → List ℕ → List ℕ → ℕ → Option (List ℕ) → Option (List ℕ) → Ended → Type 0
PlainWrites limits graph_text chips_text limit old new ended =
    (g : ChipGame) × MeansGame limits graph_text chips_text limit g
    × (text : List ℕ) × Reports g text ended.status × Appends old new text

-- the same by the texts that the readers have left, if these are known
abbrev pub PlainReports : SizeLimits → Option (List ℕ) → Option (List ℕ) → ℕ → Option (List ℕ) → Option (List ℕ)
    → Result Ended Fault → Type 0
PlainReports limits graph chips limit old new result = ForSome graph (λ graph_text. ForSome chips (λ chips_text.
    IfOk result (PlainWrites limits graph_text chips_text limit old new)))
