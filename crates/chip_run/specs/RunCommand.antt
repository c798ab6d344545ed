-- From the bytes of a graph file, a chips file and a file of feeds to those of the report of a game that threads play.
use Rattle.std.specs.Prelude.{◌≡◌, ◌⊎◌, ℕ, Bool, true, List, Option, None, Result, Ok, Err, IfOk}
use Rattle.std.specs.Option.{ForSome}
use Rattle.std.specs.Io.KnownBytes.{Appends, Keeps}
use Rattle.chip_graph.specs.Limits.{SizeLimits}
use Rattle.chip_graph.specs.ChipGame.{ChipGame, IsGame}
use Rattle.chip_graph.specs.declared.fault.GameFault.TheVariants.{Total}
use Rattle.chip_report.specs.Written.{WritesAll}
use Rattle.chip_report.specs.declared.write.WriteFault.{WriteFault}
use Rattle.chip_crew.specs.Feeding.{Left}
use Rattle.chip_crew.specs.Finished.{IsWhole, IsFinished, IsFaultOf}
use Rattle.chip_crew.specs.declared.play.Finished.{Finished}
use Rattle.chip_net.specs.Tokens.{ActorKnown}
use Rattle.chip_crew.specs.declared.plan.Plan.{Plan}
use Rattle.chip_crew.specs.declared.plan.Sharing.{Sharing}
use Rattle.chip_crew.specs.declared.fault.CrewFault.{CrewFault}
use Rattle.chip_crew.specs.declared.fault.CrewFault.TheVariants as crew
use Rattle.chip_command.specs.Reports.{Reports}
use Rattle.chip_command.specs.declared.ended.Ended.{Ended}
use Rattle.chip_command.specs.declared.fault.Fault.{Fault}
use Rattle.chip_command.specs.declared.fault.Fault.TheVariants as fault
use Rattle.chip_run.specs.Feeding.{ForText, MeansFedGame, RefusesFedGame}
use Rattle.chip_run.specs.Recording.{RecordsIfAsked, FailsToRecord}

-- the plan by these numbers, which seals nothing
abbrev pub plan_of : ℕ → ℕ → ℕ → ℕ → Plan
plan_of ring workers turns trace_rows =
    record { workers = workers; ring = ring; turns = turns; trace_rows = trace_rows; seal = None }

-- the fault of a crew, without its root
abbrev pub fault_of_crew : CrewFault → Fault
fault_of_crew crew.Plan = fault.Plan
fault_of_crew crew.Total = fault.Game Total
fault_of_crew crew.NoMemory = fault.NoMemory
fault_of_crew crew.Spawn = fault.Spawn
fault_of_crew crew.GateShut = fault.GateShut
fault_of_crew (crew.Doubled vertex) = fault.Doubled vertex
fault_of_crew (crew.Lost vertex) = fault.Lost vertex
fault_of_crew (crew.Unfinished deficit root) = fault.Unfinished deficit

-- what is known of the result of a gate that is never shut
abbrev pub never_shut : ℕ → ℕ → Bool → Type 0
never_shut worker turn answer = answer ≡ true

-- why a game has no report: a crew of it by this plan, which shares the actors so, has these feeds and a gate that is
-- never shut, did not finish; or there is no memory for the report
abbrev pub IsNotPlayed : Sharing → ChipGame → Left → Plan → Fault → Type 0
IsNotPlayed shared g feeds plan f =
    ((e : CrewFault) × IsFaultOf shared g feeds plan never_shut e × (f ≡ fault_of_crew e)) ⊎ (f ≡ fault.NoMemory)

-- a text and a status are the plain player's report of a game with these feeds, within the limits, and its status
abbrev pub ReportsFed : ChipGame → Left → List ℕ → ℕ → Type 0
ReportsFed g feeds text status =
    (whole : ChipGame) × IsWhole g feeds whole × IsGame whole × Reports whole text status

-- a crew finished the game with these actors, and text and status are its report and its status
pub record PlaysByCrew (shared : Sharing) (g : ChipGame) (feeds : Left) (plan : Plan)
    (actors : List ActorKnown) (text : List ℕ) (status : ℕ) : Type 0 where
  pub crew : Finished
  pub finished : IsFinished shared g feeds plan crew
  pub actors_are : actors ≡ crew.actors.items
  pub reports : ReportsFed g feeds text status

-- what is known of the two outputs: of the report's, and of the trace's if there is one
pub record Outputs : Type 0 where
  pub report : Option (List ℕ)
  pub trace : Option (Option (List ℕ))

-- nothing was written
pub record KeepsBoth (old new : Outputs) : Type 0 where
  pub report : Keeps old.report new.report
  pub trace : new.trace ≡ old.trace

-- the results of `run` if the inputs mean this game and these feeds: the trace of a crew that finished the game was
-- written, and the plain player's report; or nothing was, since the crew did not finish; or writing the trace failed,
-- and nothing of the report was written; or the trace was written, and the output of the report failed
abbrev pub RunAnswersFor : Sharing → ChipGame → Left → Plan → Outputs → Outputs → Result Ended Fault → Type 0
RunAnswersFor shared g feeds plan old new (Ok ended) =
    (actors : List ActorKnown) × (text : List ℕ) × PlaysByCrew shared g feeds plan actors text ended.status
    × RecordsIfAsked actors old.trace new.trace ended.cut × Appends old.report new.report text
RunAnswersFor shared g feeds plan old new (Err f) =
    (IsNotPlayed shared g feeds plan f × KeepsBoth old new)
    ⊎ ((actors : List ActorKnown) × (text : List ℕ) × (status : ℕ) × PlaysByCrew shared g feeds plan actors text status
    × FailsToRecord actors old.trace new.trace f × Keeps old.report new.report)
    ⊎ ((actors : List ActorKnown) × (text : List ℕ) × (status : ℕ) × PlaysByCrew shared g feeds plan actors text status
    × (cut : Bool) × RecordsIfAsked actors old.trace new.trace cut
    × (w : WriteFault) × (f ≡ fault.Write w) × WritesAll old.report new.report text (Err w))

-- if they mean none: nothing was written, and this is why
abbrev pub IsRefused : SizeLimits → List ℕ → List ℕ → Option (List ℕ) → ℕ → Outputs → Outputs → Result Ended Fault
    → Type 0
IsRefused limits graph_text chips_text feed_text limit old new (Ok ended) = ⊥
IsRefused limits graph_text chips_text feed_text limit old new (Err f) =
    RefusesFedGame limits graph_text chips_text feed_text limit f × KeepsBoth old new

-- the results of `run`
abbrev pub RunAnswers : SizeLimits → Sharing → List ℕ → List ℕ → Option (List ℕ) → ℕ → Plan → Outputs → Outputs
    → Result Ended Fault → Type 0
RunAnswers limits shared graph_text chips_text feed_text limit plan old new result =
    IsRefused limits graph_text chips_text feed_text limit old new result
    ⊎ ((g : ChipGame) × (feeds : Left) × MeansFedGame limits graph_text chips_text feed_text limit g feeds
    × RunAnswersFor shared g feeds plan old new result)

-- the same by the texts that the readers have left, if these are known
abbrev pub RunReads : SizeLimits → Sharing → Option (List ℕ) → Option (List ℕ) → Option (Option (List ℕ)) → ℕ → Plan
    → Outputs → Outputs → Result Ended Fault → Type 0
RunReads limits shared graph chips feed limit plan old new result =
    ForSome graph (λ graph_text. ForSome chips (λ chips_text. ForText feed
    (λ feed_text. RunAnswers limits shared graph_text chips_text feed_text limit plan old new result)))

-- what `run` wrote that ended well: the plain player's report of the game of these texts, with all fed chips at the
-- start, and its status
abbrev pub WritesReport : SizeLimits → List ℕ → List ℕ → Option (List ℕ) → ℕ → Option (List ℕ) → Option (List ℕ)
    → Ended → Type 0
WritesReport limits graph_text chips_text feed_text limit old new ended =
    (g : ChipGame) × (feeds : Left) × MeansFedGame limits graph_text chips_text feed_text limit g feeds
    × (text : List ℕ) × ReportsFed g feeds text ended.status × Appends old new text

-- the same by the texts that the readers have left, if these are known
abbrev pub RunReports : SizeLimits → Option (List ℕ) → Option (List ℕ) → Option (Option (List ℕ)) → ℕ
    → Option (List ℕ) → Option (List ℕ) → Result Ended Fault → Type 0
RunReports limits graph chips feed limit old new result =
    ForSome graph (λ graph_text. ForSome chips (λ chips_text. ForText feed
    (λ feed_text. IfOk result (WritesReport limits graph_text chips_text feed_text limit old new))))

-- a text and a status are the report of some game, and its status
abbrev pub ReportsSome : List ℕ → ℕ → Type 0
ReportsSome text status = (g : ChipGame) × IsGame g × Reports g text status

-- the results of `run` for readers of which nothing is known: the report of some game was written, with its status; or
-- nothing was; or its output failed
abbrev pub ReportsSomeRun : Option (List ℕ) → Option (List ℕ) → Result Ended Fault → Type 0
ReportsSomeRun old new (Ok ended) = (text : List ℕ) × ReportsSome text ended.status × Appends old new text
ReportsSomeRun old new (Err f) =
    Keeps old new
    ⊎ ((text : List ℕ) × (status : ℕ) × ReportsSome text status
    × (w : WriteFault) × (f ≡ fault.Write w) × WritesAll old new text (Err w))
