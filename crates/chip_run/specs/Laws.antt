-- The laws of `run`, as the functions of `src/laws.rt` state them.
use Rattle.std.specs.Prelude.{◌≡◌, ℕ, false, List, [], Option, None, Some, Ok, slice_index}
use Rattle.chip_graph.specs.Limits.{SizeLimits}
use Rattle.chip_graph.specs.ChipGame.{ChipGame}
use Rattle.chip_graph.specs.More.{HasMore}
use Rattle.chip_core.specs.Core.{fired_by}
use Rattle.chip_core.specs.Positions.{played_game}
use Rattle.chip_core.specs.Laws.{ForEveryLog}
use Rattle.chip_trace.specs.Interleaving.{IsInterleaving, row_firings}
use Rattle.chip_command.specs.Inputs.{MeansGame}
use Rattle.chip_command.specs.OneReport.{PlainWrote}
use Rattle.chip_command.specs.Stage.{TellsPlayFrom}
use Rattle.chip_command.specs.declared.ended.Ended.{Ended}
use Rattle.chip_crew.specs.Finished.{IsWhole}
use Rattle.chip_crew.specs.declared.plan.Plan.{Plan}
use Rattle.chip_crew.specs.declared.plan.Sharing.{Sharing}
use Rattle.chip_run.specs.Feeding.{MeansFedGame}
use Rattle.chip_run.specs.Replaying.{rows_in, traces_in, times_of, HasOneEach, AreGivenOnce, WritesOneRun, WritesFitting}
use Rattle.chip_run.specs.RunCommand.{Outputs, RunAnswers, WritesReport}

-- `run` wrote this report of the game that the texts mean, by whatever limits of its size, and ended with this status,
-- whatever its crew did
abbrev pub RunWrote : (graph_text chips_text : List ℕ) → Option (List ℕ) → ℕ → List ℕ → ℕ → Type 0
RunWrote graph_text chips_text feed_text limit report status =
    (limits : SizeLimits) × (ended : Ended)
    × WritesReport limits graph_text chips_text feed_text limit (Some []) (Some report) ended × (status ≡ ended.status)

-- two texts mean the game that has at the start all chips that the others give it at the start or feed it
abbrev pub MeanTheWhole : (graph_text chips_text : List ℕ) → Option (List ℕ) → ℕ → (whole_graph whole_chips : List ℕ) → Type 0
MeanTheWhole graph_text chips_text feed_text limit whole_graph whole_chips =
    (g : ChipGame) × (feeds : Option (List (ℕ × ℕ))) × (limits : SizeLimits)
    × MeansFedGame limits graph_text chips_text feed_text limit g feeds
    × (whole : ChipGame) × (others : SizeLimits) × MeansGame others whole_graph whole_chips limit whole
    × IsWhole g feeds whole

-- if `run` and `plain` both wrote a report of the same files, they wrote the same bytes, with the same status
abbrev pub SameBytes : Type 0
SameBytes =
    (graph_text chips_text : List ℕ) (limit : ℕ) (one other : List ℕ) (s t : ℕ)
    → RunWrote graph_text chips_text None limit one s → PlainWrote graph_text chips_text limit other t
    → (one ≡ other) × (s ≡ t)

-- the same if `run` is fed, and the files of `plain` have all those chips at the start
abbrev pub SameBytesFed : Type 0
SameBytesFed =
    (graph_text chips_text : List ℕ) (feed_text : Option (List ℕ)) (limit : ℕ) (whole_graph whole_chips : List ℕ)
    → MeanTheWhole graph_text chips_text feed_text limit whole_graph whole_chips → (one other : List ℕ) (s t : ℕ)
    → RunWrote graph_text chips_text feed_text limit one s → PlainWrote whole_graph whole_chips limit other t
    → (one ≡ other) × (s ≡ t)

-- the report of `run` describes a play from the start of the game that has all chips at the start, the fed ones too
abbrev pub RunTellsPlay : Type 0
RunTellsPlay =
    (graph_text chips_text : List ℕ) (feed_text : Option (List ℕ)) (limit : ℕ) (report : List ℕ) (status : ℕ)
    → RunWrote graph_text chips_text feed_text limit report status → (limits : SizeLimits) (g : ChipGame)
    (feeds : Option (List (ℕ × ℕ))) → MeansFedGame limits graph_text chips_text feed_text limit g feeds → (whole : ChipGame) → IsWhole g feeds whole
    → TellsPlayFrom whole.graph (slice_index whole.start) report

-- of each legal log in which no vertex was given chips more than once, the rows in its order are an interleaving of what
-- the vertices recorded, in the game that starts with what was given, and each vertex fires in it as often as in the log
abbrev pub LogsFit : Type 0
LogsFit = ForEveryLog (λ g log. HasOneEach g log
    → IsInterleaving (played_game g log) (traces_in g log) (rows_in g log)
    × ((v : ℕ) → times_of v (row_firings (rows_in g log)) ≡ fired_by g log v))

-- the same for each legal log of a game that is not fed
abbrev pub UnfedLogsFit : Type 0
UnfedLogsFit = ForEveryLog (λ g log. g.fed ≡ false → IsInterleaving g.game (traces_in g log) (rows_in g log))

-- if `run` is not fed, seals nothing and ends well, the rows of its actors have an interleaving, with the counts of the
-- report
abbrev pub RowsFit : Type 0
RowsFit =
    (limits : SizeLimits) (graph_text chips_text : List ℕ) (limit : ℕ) (shared : Sharing) (plan : Plan) (old new : Outputs) (ended : Ended) → plan.seal ≡ None
    → RunAnswers limits shared graph_text chips_text None limit plan old new (Ok ended)
    → (g : ChipGame) × MeansGame limits graph_text chips_text limit g × WritesOneRun g old new ended.cut

-- if no trace was cut, so have the rows that it wrote
abbrev pub UncutTracesFit : Type 0
UncutTracesFit =
    (limits : SizeLimits) (graph_text chips_text : List ℕ) (limit : ℕ) (shared : Sharing) (plan : Plan)
    (old_report new_report old_trace new_trace : Option (List ℕ)) (ended : Ended) → plan.seal ≡ None
    → RunAnswers limits shared graph_text chips_text None limit plan (record { report = old_report; trace = Some old_trace })
    (record { report = new_report; trace = Some new_trace }) (Ok ended)
    → ended.cut ≡ false
    → (g : ChipGame) × MeansGame limits graph_text chips_text limit g
    × WritesFitting g old_report new_report old_trace new_trace

-- if `run` is fed, seals nothing and ends well, and no vertex has chips both at the start and by a feed, they have an
-- interleaving in the game that has all chips at the start
abbrev pub FedRowsFit : Type 0
FedRowsFit =
    (limits : SizeLimits) (graph_text chips_text feed_text : List ℕ) (limit : ℕ) (shared : Sharing) (plan : Plan) (old new : Outputs) (ended : Ended)
    → plan.seal ≡ None → RunAnswers limits shared graph_text chips_text (Some feed_text) limit plan old new (Ok ended)
    → (g : ChipGame) × (feeds : List (ℕ × ℕ))
    × MeansFedGame limits graph_text chips_text (Some feed_text) limit g (Some feeds)
    × (AreGivenOnce g feeds → (whole : ChipGame) × HasMore g feeds whole × WritesOneRun whole old new ended.cut)
