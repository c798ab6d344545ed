-- From the bytes of a graph file, a chips file and a schedule to the replies of the core, and to the report if the root
-- closes.
use Rattle.std.specs.Prelude.{◌≡◌, ◌≤◌, ℕ, List, [], ◌∷◌, ◌++◌, codes, Bool, if◌then◌else◌, Option, Some, Result}
use Rattle.std.specs.Fmt.{decimal}
use Rattle.chip_graph.specs.ChipGame.{ChipGame}
use Rattle.chip_link.specs.declared.event.Event.{Event}
use Rattle.chip_link.specs.declared.message.Message.{Message}
use Rattle.chip_part.specs.declared.reply.Reply.{Reply}
use Rattle.chip_part.specs.declared.reply.Reply.TheVariants.{Done, Got, Sent, Empty, Full, Sealed, NotNow}
use Rattle.chip_part.specs.Setting.{Setting, IsSetting, setting_with}
use Rattle.chip_part.specs.Numbers.{rule_number}
use Rattle.chip_core.specs.Core.{Log, IsLegalLog, step, log_after}
use Rattle.chip_core.specs.Closing.{HasEnd, RootHasPut}
use Rattle.chip_core.specs.Headline.{NoneHaltedBySeal}
use Rattle.chip_world.specs.declared.world.driving.Drive.{Drive}
use Rattle.chip_world.specs.declared.world.driving.Drive.TheVariants.{Closed, Unfinished}
use Rattle.chip_world.specs.Rounds.{IsDrive}
use Rattle.chip_world.specs.Enough.{rounds_to_close}
use Rattle.chip_world.specs.World.{WorldState, StandsForLog}
use Rattle.chip_core.specs.Outcomes.{IsOutcomeOf, ComesTo}
use Rattle.chip_core.specs.Positions.{firings, chips_given, played_game}
use Rattle.chip_file.specs.ScheduleText.{schedule_of_text, schedule_text_fault}
use Rattle.chip_sequence.specs.declared.outcome.Outcome.{Outcome}
use Rattle.chip_sequence.specs.Outcomes.{IsOutcome}
use Rattle.chip_sequence.specs.Bound.{IsGreatestDistance}
use Rattle.chip_report.specs.ReportText.{report_text}
use Rattle.chip_command.specs.CommandAnswers.{Spec, bind, CommandAnswers}
use Rattle.chip_command.specs.Inputs.{reading, reading_game}
use Rattle.chip_engine.specs.Board.{board_text}
use Rattle.chip_engine.specs.declared.simulate.SimulateOptions.{SimulateOptions}
use Rattle.chip_command.specs.Reports.{plain_status, Reports}
use Rattle.chip_command.specs.declared.ended.Ended.{Ended}
use Rattle.chip_command.specs.declared.fault.Fault.{Fault}
use Rattle.chip_command.specs.declared.fault.Fault.TheVariants.{NoMemory}

-- a message's place and count
abbrev pub message_text : Message → List ℕ
message_text message = decimal message.place ++ codes " " ++ decimal message.count

-- a reply as a line; a rule that is not met is written by its number
abbrev pub reply_text : Reply → List ℕ
reply_text (Done number) = codes "done " ++ decimal number ++ codes "\n"
reply_text (Got message) = codes "got " ++ message_text message ++ codes "\n"
reply_text (Sent message) = codes "sent " ++ message_text message ++ codes "\n"
reply_text Empty = codes "empty\n"
reply_text Full = codes "full\n"
reply_text Sealed = codes "sealed\n"
reply_text (NotNow rule) = codes "not-now " ++ decimal (rule_number rule) ++ codes "\n"

-- the reply after which a log stands, followed by the board if asked
abbrev pub answer_text : Bool → Setting → Log → Reply → List ℕ
answer_text books g log reply = reply_text reply ++ (if books then board_text g log else [])

-- the replies to these events, each followed by the board if asked
abbrev pub answers_text : Bool → Setting → Log → List Event → List ℕ
answers_text books g log [] = []
answers_text books g log (x ∷ xs) =
    answer_text books g (step g log x).0 (step g log x).1 ++ answers_text books g (step g log x).0 xs

-- a world ran through these events from the opening on
abbrev pub IsRunThrough : Setting → List Event → WorldState → Type 0
IsRunThrough g events w = StandsForLog g (log_after g [] events) w

-- the end of a closed run: the report of its outcome and the status that `plain` has for it. The firings of the run
-- lead to this outcome, so that a play can go on from it. Unless a seal halted a vertex, it is what `plain` writes for
-- the game that has all given chips from the start, and its status
pub record EndsClosed (g : Setting) (log : Log) (end : List ℕ) (status : ℕ) : Type 0 where
  pub is_setting : IsSetting g
  pub legal : IsLegalLog g log
  pub outcome : Outcome
  pub outcome_is : IsOutcomeOf g log outcome
  pub reportable : IsOutcome outcome
  pub comes : ComesTo g (chips_given g log) (firings log) outcome
  pub reported : end ≡ codes "root closed\n" ++ report_text outcome
  pub status_is : status ≡ plain_status outcome
  pub plays : NoneHaltedBySeal g log → Reports (played_game g log) (report_text outcome) status

-- the end of a run, by how its rounds ended
abbrev pub EndsBy : Setting → Log → Drive → List ℕ → ℕ → Type 0
EndsBy g log Closed end status = EndsClosed g log end status
EndsBy g log (Unfinished rounds) end status = (end ≡ codes "root open\n") × (status ≡ 3)

-- `rounds` rounds close the game after this schedule: it noted the end of feeding, no message of the root is claimed
-- and not put, and they are at least the number that the game with all given chips needs
pub record HasEnoughRounds (g : Setting) (rounds : ℕ) (events : List Event) : Type 0 where
  pub end : HasEnd g (log_after g [] events)
  pub put : RootHasPut g (log_after g [] events)
  pub distance : ℕ
  pub is_distance : IsGreatestDistance g.game.graph distance
  pub enough : rounds_to_close (played_game g (log_after g [] events)) distance ≤ rounds

-- the text and the status of a simulation: the replies to the events from the opening on, with the books or without, at
-- most `rounds` rounds, and the end; enough rounds close it
pub record Simulates (g : Setting) (rounds : ℕ) (books : Bool) (events : List Event) (text : List ℕ)
    (status : ℕ) : Type 0 where
  pub after : Log
  pub drive : Drive
  pub driven : IsDrive g rounds (log_after g [] events) after drive
  pub end : List ℕ
  pub lines : text ≡ answers_text books g [] events ++ end
  pub ends : EndsBy g after drive end status
  pub closes : HasEnoughRounds g rounds events → drive ≡ Closed

-- simulating a game by the options gives the text of the simulation, and its status; or there is no memory
abbrev pub simulating : SimulateOptions → ChipGame → List Event → Spec (List ℕ × ℕ)
simulating options g events = record {
  gives = λ (text, status).
      Simulates (setting_with g options.ring options.fed) options.rounds options.books events text status;
  refuses = λ fault. fault ≡ NoMemory;
}

-- the results of `simulate`
abbrev pub SimulateAnswers : (graph chips schedule : Option (List ℕ)) → SimulateOptions → Option (List ℕ) → Option (List ℕ)
    → Result Ended Fault → Type 0
SimulateAnswers graph chips schedule options old new result = let o = options.play in CommandAnswers
    (bind (reading_game o.limits graph chips o.limit)
    (λ g. bind (reading o.limits (λ text events. schedule_of_text g.graph text ≡ Some events)
    (λ text f. schedule_text_fault g.graph text ≡ Some f) schedule) (simulating options g))) old new result
