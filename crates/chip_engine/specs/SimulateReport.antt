-- The report of a simulation, by the lines that it writes alone.
use Rattle.std.specs.Prelude.{◌≡◌, ◌⊎◌, ℕ, ◌-◌, List, [], ◌∷◌, ◌++◌, length, codes, Bool, false, Option, Some, Result}
use Rattle.std.specs.Prelude.{IfOk}
use Rattle.std.specs.Option.{ForSome}
use Rattle.std.specs.Io.KnownBytes.{Appends}
use Rattle.chip_graph.specs.ChipGame.{ChipGame}
use Rattle.chip_graph.specs.Edges.{own_edges}
use Rattle.chip_graph.specs.More.{HasMore}
use Rattle.chip_link.specs.declared.event.Event.{Event}
use Rattle.chip_link.specs.declared.event.Event.TheVariants.{Feed}
use Rattle.chip_part.specs.declared.reply.Reply.{Reply}
use Rattle.chip_part.specs.declared.reply.Reply.TheVariants.{Sent}
use Rattle.chip_file.specs.ScheduleText.{schedule_of_text}
use Rattle.chip_sequence.specs.declared.outcome.Outcome.{Outcome}
use Rattle.chip_report.specs.ReportText.{report_text}
use Rattle.chip_command.specs.Inputs.{MeansGame}
use Rattle.chip_command.specs.Reports.{plain_status, Reports}
use Rattle.chip_command.specs.declared.ended.Ended.{Ended}
use Rattle.chip_command.specs.declared.fault.Fault.{Fault}
use Rattle.chip_engine.specs.SimulateCommand.{reply_text}
use Rattle.chip_engine.specs.declared.simulate.SimulateOptions.{SimulateOptions}

-- the vertex and the chips of a feed that was sent
abbrev pub fed_by_reply : ChipGame → Event → Reply → List (ℕ × ℕ)
fed_by_reply game (Feed edge count) (Sent message) = (edge - own_edges game.graph, count) ∷ []
fed_by_reply game _ _ = []

-- all that a schedule fed, by the replies to its events
abbrev pub fed_by_replies : ChipGame → List Event → List Reply → List (ℕ × ℕ)
fed_by_replies game (x ∷ xs) (reply ∷ replies) = fed_by_reply game x reply ++ fed_by_replies game xs replies
fed_by_replies game _ _ = []

-- lines that report replies, each followed by the board while there are boards
abbrev pub told_text : List Reply → List (List ℕ) → List ℕ
told_text [] boards = []
told_text (reply ∷ replies) [] = reply_text reply ++ told_text replies []
told_text (reply ∷ replies) (board ∷ boards) = reply_text reply ++ (board ++ told_text replies boards)

-- the root is open at the end of a simulation
abbrev pub EndsOpen : List ℕ → ℕ → Type 0
EndsOpen end status = (end ≡ codes "root open\n") × (status ≡ 3)

-- it is closed, and the report of an outcome follows, with its status: unless that names a sealed vertex, the report that
-- the plain player has of the whole game, with all chips at the start that the game had or was fed
pub record EndsAsPlain (game : ChipGame) (is_fed : Bool) (feeds : List (ℕ × ℕ)) (end : List ℕ) (status : ℕ) : Type 0 where
  pub outcome : Outcome
  pub whole : ChipGame
  pub more : HasMore game feeds whole
  pub unfed : is_fed ≡ false → feeds ≡ []
  pub reported : end ≡ codes "root closed\n" ++ report_text outcome
  pub status_is : status ≡ plain_status outcome
  pub plays : outcome.sealed.items ≡ [] → Reports whole (report_text outcome) status

-- what `simulate` wrote that ended well: a line for the reply to each event of the schedule, and the end
pub record SimulateWrites (options : SimulateOptions) (graph_text chips_text schedule_text : List ℕ)
    (old new : Option (List ℕ)) (ended : Ended) : Type 0 where
  pub game : ChipGame
  pub means : MeansGame options.play.limits graph_text chips_text options.play.limit game
  pub events : List Event
  pub are_events : schedule_of_text game.graph schedule_text ≡ Some events
  pub replies : List Reply
  pub each : length replies ≡ length events
  pub boards : List (List ℕ)
  pub unasked : options.books ≡ false → boards ≡ []
  pub end : List ℕ
  pub wrote : Appends old new (told_text replies boards ++ end)
  pub ends : EndsOpen end ended.status
      ⊎ EndsAsPlain game options.fed (fed_by_replies game events replies) end ended.status

-- the same by what the readers have left, if that is known
abbrev pub SimulateReports : (graph chips schedule : Option (List ℕ)) → SimulateOptions → Option (List ℕ)
    → Option (List ℕ) → Result Ended Fault → Type 0
SimulateReports graph chips schedule options old new result =
    ForSome graph (λ graph_text. ForSome chips (λ chips_text. ForSome schedule (λ schedule_text.
    IfOk result (SimulateWrites options graph_text chips_text schedule_text old new))))
