-- Serves SimulateReport.antt.
-- What a schedule fed is what its replies report, and so the report is that of the whole game.
use Rattle.std.proofs.Common.{◌≡◌, ◌≢◌, ℕ, ◌<◌, ◌⊎◌, Bool, true, false, List, [], ◌∷◌, ◌++◌}
use Rattle.std.proofs.Common.{Contains, Option, Some, None, Result, Ok, Err, refl, sym, ap, ◌∙◌, subst, arith, inl, inr}
use Rattle.std.proofs.Common.{append_assoc, append-nil}
use Rattle.std.specs.Io.KnownBytes.{Appends}
use Rattle.std.proofs.lemmas.Bool.{false_from_ne_true}
use Rattle.chip_graph.specs.ChipGame.{ChipGame, IsGame}
use Rattle.chip_graph.specs.More.{HasMore}
use Rattle.chip_graph.specs.Sums.{filter_below}
use Rattle.chip_graph.proofs.SumLemmas.{cond_yes}
use Rattle.chip_link.specs.Link.{claims_of}
use Rattle.chip_part.specs.Setting.{Setting, setting_with}
use Rattle.chip_part.specs.Kept.{Met}
use Rattle.chip_part.specs.Steps.{saw, message_of}
use Rattle.chip_part.specs.declared.cause.Cause.{Cause}
use Rattle.chip_part.specs.declared.cause.Cause.TheVariants.{SealedEdge, FiringLimit}
use Rattle.chip_part.specs.declared.reply.Reply.TheVariants.{Sent, Sealed, NotNow}
use Rattle.chip_part.proofs.RuleLemmas.{rules_met}
use Rattle.chip_core.specs.Core.{Log, Event, Feed, Rule, IsLegalLog, part_of, part_in, out_in, sees}
use Rattle.chip_core.specs.Core.{unmet_rule, answer, reply_of, step, log_after, replies_to}
use Rattle.chip_core.specs.Headline.{NoneHaltedBySeal}
use Rattle.chip_core.specs.Outcomes.{is_by_seal}
use Rattle.chip_core.specs.Positions.{played_game, fed_of}
use Rattle.chip_core.specs.Work.{fed_so_far}
use Rattle.chip_core.proofs.GivenLemmas.{feed_sees, recorded_step, played_has_more, unfed_records}
use Rattle.chip_core.proofs.ReachingLemmas.{step_legal, run_legal}
use Rattle.chip_core.proofs.ReplyLemmas.{length_replies}
use Rattle.chip_world.specs.Rounds.{IsDrive}
use Rattle.chip_world.specs.declared.world.driving.Drive.{Drive}
use Rattle.chip_world.specs.declared.world.driving.Drive.TheVariants.{Closed, Unfinished}
use Rattle.chip_world.proofs.FedLemmas.{rounds_feed_none}
use Rattle.chip_file.specs.ScheduleText.{schedule_of_text}
use Rattle.chip_command.specs.Inputs.{MeansGame}
use Rattle.chip_command.specs.declared.ended.Ended.{Ended}
use Rattle.chip_command.specs.declared.fault.Fault.{Fault}
use Rattle.chip_engine.specs.Board.{board_text}
use Rattle.chip_engine.specs.SimulateCommand.{reply_text, answers_text, EndsClosed, EndsBy, Simulates, SimulateAnswers}
use Rattle.chip_engine.specs.SimulateReport.{fed_by_reply, fed_by_replies, told_text, EndsOpen, EndsAsPlain}
use Rattle.chip_engine.specs.SimulateReport.{SimulateWrites, SimulateReports}
use Rattle.chip_engine.specs.declared.simulate.SimulateOptions.{SimulateOptions}
use Rattle.chip_graph.proofs.PickLemmas.{picked_has}

module _ (g : Setting) where
  -- ---- what events feed

  refused_feeds_none : (x : Event) (r : Rule) → fed_by_reply g.game x (NotNow r) ≡ []
  refused_feeds_none (Feed e k) r = refl
  refused_feeds_none _ r = refl

  reply_feeds : (log : Log) → IsLegalLog g log → (x : Event) → Met g x (part_in g log (part_of g x))
      → fed_of g x ≡ fed_by_reply g.game x (reply_of g x (sees g log x) (part_in g log (part_of g x)))
  reply_feeds log legal (Feed e k) may =
      let claims : ℕ = claims_of (out_in g log e).link in
      sym (ap (fed_by_reply g.game (Feed e k)) (cond_yes (sees g log (Feed e k)) claims
      (Sent (message_of e claims k)) Sealed (feed_sees g log legal e k may.0)))
  reply_feeds log legal _ may = refl

  module _ (game : IsGame g.game) (some_ring : 0 < g.ring) where
    answer_feeds : (log : Log) (x : Event) (o : Option Rule) → unmet_rule g x (part_in g log (part_of g x)) ≡ o
        → IsLegalLog g log
        → fed_so_far g (answer g log x o).0 ≡ fed_so_far g log ++ fed_by_reply g.game x (answer g log x o).1
    answer_feeds log x (Some r) is legal = sym (ap (λ (l : List (ℕ × ℕ)). fed_so_far g log ++ l)
        (refused_feeds_none x r) ∙ append-nil (fed_so_far g log))
    answer_feeds log x None is legal = recorded_step g game some_ring (saw x (sees g log x)) log (legal, (is, refl))
        ∙ ap (λ (l : List (ℕ × ℕ)). fed_so_far g log ++ l)
        (reply_feeds log legal x (rules_met g x (part_in g log (part_of g x)) is))

    run_feeds : (log : Log) → IsLegalLog g log → (xs : List Event)
        → fed_so_far g (log_after g log xs) ≡ fed_so_far g log ++ fed_by_replies g.game xs (replies_to g log xs)
    run_feeds log legal [] = sym (append-nil (fed_so_far g log))
    run_feeds log legal (x ∷ xs) =
        let rest : List (ℕ × ℕ) = fed_by_replies g.game xs (replies_to g (step g log x).0 xs) in
        run_feeds (step g log x).0 (step_legal g log x legal) xs
        ∙ ap (λ (l : List (ℕ × ℕ)). l ++ rest)
        (answer_feeds log x (unmet_rule g x (part_in g log (part_of g x))) refl legal)
        ∙ append_assoc (fed_so_far g log) (fed_by_reply g.game x (step g log x).1) rest

-- ---- the report

-- if none is picked, each fails the test
none_picked : (test : ℕ → Bool) (n : ℕ) → filter_below test n ≡ [] → (v : ℕ) → v < n → test v ≡ false
none_picked test n none v below = false_from_ne_true (test v) (λ is.
    let has : Contains [] v = rw none at (picked_has test n v below is) in let past = has.1 in omega arith)

not_by_seal : (h : Option Cause) → is_by_seal h ≡ false → h ≢ Some SealedEdge
not_by_seal None fails = λ is. cc
not_by_seal (Some SealedEdge) fails = cc
not_by_seal (Some FiringLimit) fails = λ is. cc

-- an outcome that names no sealed vertex is of a log in which no seal halted one
unsealed : (g : Setting) (log : Log) (end : List ℕ) (status : ℕ) (ends : EndsClosed g log end status)
    → ends.outcome.sealed.items ≡ [] → NoneHaltedBySeal g log
unsealed g log end status ends none v below = not_by_seal (part_in g log v).halt
    (none_picked (λ u. is_by_seal (part_in g log u).halt) g.game.graph.vertices (sym ends.outcome_is.sealed ∙ none) v below)

ends_by : (g : Setting) (rounds : ℕ) (events : List Event) (after : Log) (end : List ℕ) (status : ℕ) (drive : Drive)
    → IsDrive g rounds (log_after g [] events) after drive → EndsBy g after drive end status
    → EndsOpen end status ⊎ EndsAsPlain g.game g.fed (fed_by_replies g.game events (replies_to g [] events)) end status
ends_by g rounds events after end status (Unfinished n) driven ends = inl ends
ends_by g rounds events after end status Closed driven ends =
    let game = ends.is_setting.game in
    let some_ring = ends.is_setting.some_ring in
    let before : Log = log_after g [] events in
    let drove = rounds_feed_none g game some_ring driven.count before after (run_legal g [] events tt)
    driven.are_rounds in
    let fed : fed_so_far g after ≡ fed_by_replies g.game events (replies_to g [] events) =
    drove.same ∙ run_feeds g game some_ring [] tt events in
    inr (record {
      outcome = ends.outcome;
      whole = played_game g after;
      more = subst (λ (l : List (ℕ × ℕ)). HasMore g.game l (played_game g after)) fed
          (played_has_more g game some_ring after ends.legal);
      unfed = λ off. sym fed ∙ unfed_records g game some_ring off after ends.legal;
      reported = ends.reported;
      status_is = ends.status_is;
      plays = λ none. ends.plays (unsealed g after end status ends none);
    })

-- ---- the lines

abbrev boards_of : Bool → Setting → Log → List Event → List (List ℕ)
boards_of true g log (x ∷ xs) = board_text g (step g log x).0 ∷ boards_of true g (step g log x).0 xs
boards_of true g log [] = []
boards_of false g log xs = []

told : (books : Bool) (g : Setting) (log : Log) (xs : List Event)
    → answers_text books g log xs ≡ told_text (replies_to g log xs) (boards_of books g log xs)
told true g log [] = refl
told true g log (x ∷ xs) = let reply : List ℕ = reply_text (step g log x).1 in
    let board : List ℕ = board_text g (step g log x).0 in
    append_assoc reply board (answers_text true g (step g log x).0 xs)
    ∙ ap (λ (l : List ℕ). reply ++ (board ++ l)) (told true g (step g log x).0 xs)
told false g log [] = refl
told false g log (x ∷ xs) = rw (append-nil (reply_text (step g log x).1), told false g (step g log x).0 xs) refl

writes : (options : SimulateOptions) (graph_text chips_text schedule_text : List ℕ) (old new : Option (List ℕ))
    (ended : Ended) (game : ChipGame)
    → MeansGame options.play.limits graph_text chips_text options.play.limit game → (events : List Event)
    → schedule_of_text game.graph schedule_text ≡ Some events → (text : List ℕ) → Appends old new text
    → Simulates (setting_with game options.ring options.fed) options.rounds options.books events text ended.status
    → SimulateWrites options graph_text chips_text schedule_text old new ended
writes options graph_text chips_text schedule_text old new ended game means events are text out did =
    let g : Setting = setting_with game options.ring options.fed in
    record {
      game = game;
      means = means;
      events = events;
      are_events = are;
      replies = replies_to g [] events;
      each = length_replies g [] events;
      boards = boards_of options.books g [] events;
      unasked = λ off. ap (λ (b : Bool). boards_of b g [] events) off;
      end = did.end;
      wrote = subst (Appends old new) (did.lines ∙ ap (λ (l : List ℕ). l ++ did.end) (told options.books g [] events)) out;
      ends = ends_by g options.rounds events did.after did.end ended.status did.drive did.driven did.ends;
    }

-- what `simulate` writes is such a text
pub simulate_reports : (graph chips schedule : Option (List ℕ)) (options : SimulateOptions) (old new : Option (List ℕ))
    (result : Result Ended Fault) → SimulateAnswers graph chips schedule options old new result
    → SimulateReports graph chips schedule options old new result
simulate_reports graph chips schedule options old new (Err fault) answers =
    λ graph_text graph_is chips_text chips_is schedule_text schedule_is. tt
simulate_reports graph chips schedule options old new (Ok ended) answers =
    λ graph_text graph_is chips_text chips_is schedule_text schedule_is.
    let (text, (game, gave, (events, read, did)), out, cut) = answers.answer in
    writes options graph_text chips_text schedule_text old new ended game
    (gave.means graph_text graph_is chips_text chips_is) events (read schedule_text schedule_is).1 text out did
