-- Worked rows, as the definitions compute them.
use Rattle.std.specs.Prelude.{◌≡◌, ℕ, List, [], ◌∷◌, ◌++◌, codes, flat_map, slice_index, Some, None, true, false}
use Rattle.chip_sequence.specs.Firing.{legal_vertices}
use Rattle.chip_sequence.specs.Sequence.{position_after, counts}
use Rattle.chip_graph.specs.Worked.{triangle}
use Rattle.chip_graph.specs.ChipGame.{ChipGame}
use Rattle.chip_link.specs.declared.trace.TraceRow.{TraceRow}
use Rattle.chip_link.specs.declared.trace.TraceRow.TheVariants.{Take, Fire}
use Rattle.chip_link.specs.declared.event.Event.{Event}
use Rattle.chip_link.specs.declared.event.Event.TheVariants.{Clear, Feed}
use Rattle.chip_part.specs.declared.reply.Reply.{Reply}
use Rattle.chip_part.specs.declared.reply.Reply.TheVariants.{Done, Sent, NotNow}
use Rattle.chip_part.specs.declared.rule.Rule.TheVariants.{NotCleared}
use Rattle.chip_part.specs.Steps.{message_of}
use Rattle.chip_sequence.specs.Worked.{chips_on, on_each}
use Rattle.chip_sequence.specs.Stages.{fired_in_all}
use Rattle.chip_sequence.specs.declared.resumed.Resumed.{Resumed}
use Rattle.chip_sequence.specs.declared.resumed.ResumeFault.TheVariants.{Mismatch, Total, Limit, Prior}
use Rattle.chip_report.specs.ReportTwo.{report_two_text}
use Rattle.chip_command.specs.declared.table.Explanation.{Explanation}
use Rattle.chip_command.specs.Faults.{fault_of_resume}
use Rattle.chip_command.specs.FaultNumbers.{command_fault_number, location_of}
use Rattle.chip_command.specs.Reports.{plain_status}
use Rattle.chip_command.specs.Statuses.{number_of_status}
use Rattle.chip_engine.specs.ReplayCommand.{left_text, status_of_left, told_left}
use Rattle.chip_engine.specs.SimulateReport.{fed_by_replies, told_text}
use Rattle.chip_engine.specs.ExplainCommand.{explanation}
use Rattle.chip_command.specs.declared.fault.Fault.TheVariants.{NotReport}
use Rattle.chip_command.specs.declared.fault.Location.TheVariants.{Nowhere, At}

-- the triangle with five chips on vertex 0, stopped after the counts 2, 1 and 0
pub record WentOn (r : Resumed) : Type 0 where
  pub prior : r.prior.items ≡ 2 ∷ 1 ∷ 0 ∷ []
  pub fired : r.outcome.fired.items ≡ 1 ∷ 0 ∷ 0 ∷ []
  pub chips : r.outcome.chips.items ≡ 0 ∷ 1 ∷ 4 ∷ []
  pub over : r.outcome.over.items ≡ []
  pub sealed : r.outcome.sealed.items ≡ []

-- the vertices that fire in turn if it is never stopped
abbrev pub never_stopped : List ℕ
never_stopped = 0 ∷ 0 ∷ 1 ∷ 0 ∷ []

-- its totals and its chips are those of the play that is never stopped; its status, and its report
pub record IsToldAsWentOn (r : Resumed) : Type 0 where
  pub counted : on_each (fired_in_all r) ≡ on_each (counts never_stopped)
  pub position : on_each (slice_index r.outcome.chips.items)
      ≡ on_each (position_after triangle (chips_on 5 0 0) never_stopped)
  pub ended : legal_vertices triangle (position_after triangle (chips_on 5 0 0) never_stopped) ≡ []
  pub status : plain_status r.outcome ≡ 0
  pub reported : report_two_text r
      ≡ codes "{\"chips\":[0,1,4],\"closed\":true,\"fired\":[1,0,0],\"over\":[],\"prior\":[2,1,0],\"sealed\":[],"
      ++ codes "\"version\":2}\n"

-- the triangle, resumed
abbrev pub TriangleGoesOn : Type 0
TriangleGoesOn = (r : Resumed) → WentOn r → IsToldAsWentOn r

-- the refusals of `resume`, by their numbers and places
abbrev pub RefusalsAreNumbered : Type 0
RefusalsAreNumbered =
    (command_fault_number NotReport ≡ 50)
    × (command_fault_number (fault_of_resume (Prior 3)) ≡ 51) × (location_of (fault_of_resume (Prior 3)) ≡ At 3)
    × (command_fault_number (fault_of_resume Mismatch) ≡ 52) × (location_of (fault_of_resume Mismatch) ≡ Nowhere)
    × (command_fault_number (fault_of_resume Total) ≡ 10) × (command_fault_number (fault_of_resume Limit) ≡ 11)

-- a row that says what fault 6 is, and what to do
pub record SaysLoop (row : Explanation) : Type 0 where
  pub number : row.number ≡ 6
  pub name : row.name.now ≡ codes "Loop"
  pub letters : row.place.letters.now ≡ codes " i"
  pub reading : row.place.reading.now ≡ codes "i is an edge.\n"
  pub meaning : row.meaning.now ≡ codes "edge i is a loop"
  pub advice : row.advice.now ≡ codes "Leave it out.\n"

-- what a table of faults with this row alone says of fault 6, of fault 7 and of all faults
pub record IsExplained (row : Explanation) : Type 0 where
  pub asked : explanation (codes "fault") (row ∷ []) (Some 6)
      ≡ Some (codes "fault 6 Loop i: edge i is a loop\n\ni is an edge.\nLeave it out.\n")
  pub unknown : explanation (codes "fault") (row ∷ []) (Some 7) ≡ None
  pub listed : explanation (codes "fault") (row ∷ []) None
      ≡ Some (codes "fault 6 Loop i: edge i is a loop\n"
      ++ codes "\n`chipfire explain N` says more of fault N, and `chipfire explain rule N` of rule N.\n")

-- a row, explained
abbrev pub LoopIsExplained : Type 0
LoopIsExplained = (row : Explanation) → SaysLoop row → IsExplained row

-- the triangle with four chips on vertex 0, and a limit
abbrev pub triangle_within : ℕ → ChipGame
triangle_within limit = record { graph = triangle; start = 4 ∷ 0 ∷ 0 ∷ []; limit = limit }

-- vertex 0 takes its chips and fires once, and vertex 1 takes the one that it gets; the sink takes nothing
abbrev pub begun : List (List TraceRow)
begun = (Take 4 4 ∷ Fire 1 ∷ []) ∷ (Take 0 1 ∷ []) ∷ [] ∷ []

-- what is left of these rows, as it is written with a limit of two firings and of one, its status, and what is written
-- if not asked
pub record TriangleLeaves : Type 0 where
  pub can_fire : flat_map left_text (told_left true (triangle_within 2) begun)
      ≡ codes "left: edge 1 has 1 messages\nleft: vertex 0 can fire\n"
  pub at_limit : flat_map left_text (told_left true (triangle_within 1) begun)
      ≡ codes "left: edge 1 has 1 messages\nleft: vertex 0 is at its limit\n"
  pub status : number_of_status (status_of_left (told_left true (triangle_within 1) begun)) ≡ 2
  pub unasked : told_left false (triangle_within 1) begun ≡ []

-- a look at the first root edge of the triangle, a feed of three chips on it, and one on the next without a look
abbrev pub two_feeds : List Event
two_feeds = Clear 4 ∷ Feed 4 3 ∷ Feed 5 2 ∷ []

-- the replies to them
abbrev pub their_replies : List Reply
their_replies = Done 0 ∷ Sent (message_of 4 0 3) ∷ NotNow NotCleared ∷ []

-- only the first feed was sent; the lines of the replies say so, with a board or without
abbrev pub OneFeedIsSent : Type 0
OneFeedIsSent =
    (fed_by_replies (triangle_within 2) two_feeds their_replies ≡ (0, 3) ∷ [])
    × (told_text their_replies [] ≡ codes "done 0\nsent 0 3\nnot-now 11\n")
    × (told_text their_replies (codes "board\n" ∷ []) ≡ codes "done 0\nboard\nsent 0 3\nnot-now 11\n")
