-- Serves Laws.antt.
-- The rows of a run's actors are those of one log, so they have an interleaving.
use Rattle.std.proofs.Common.{◌≡◌, ℕ, ◌<◌, arith, true, false, List, [], ◌∷◌, length, map, inl, inr, Some, None}
use Rattle.std.proofs.Common.{is_some, Ok, refl, sym, ap, ◌∙◌, subst}
use Rattle.std.proofs.lemmas.Bool.Decides.{nat_tests}
use Rattle.std.proofs.lemmas.Bool.{or_parts, ltb-false}
use Rattle.std.proofs.lemmas.List.{get_or-map, length-map, take_all}
use Rattle.std.proofs.lemmas.List.FromFn.{fill_by_all}
use Rattle.std.proofs.lemmas.Option.{slice_get-get_or}
use Rattle.chip_graph.specs.ChipGame.{ChipGame, IsGame}
use Rattle.chip_sequence.specs.declared.outcome.Outcome.{Outcome}
use Rattle.chip_report.specs.ReportText.{report_text}
use Rattle.chip_part.specs.Setting.{Setting, setting_with}
use Rattle.chip_core.specs.Core.{Log, IsLegalLog, root}
use Rattle.chip_core.specs.Histories.{done_by}
use Rattle.chip_core.specs.Outcomes.{IsOutcomeOf}
use Rattle.chip_core.specs.Positions.{played_game, fed_in}
use Rattle.chip_core.proofs.GivenLemmas.{given_by_the_record}
use Rattle.chip_core.proofs.OutcomeLemmas.{outcomes_tell}
use Rattle.chip_core.proofs.PositionLemmas.{counts_are}
use Rattle.chip_net.specs.Tokens.{NetId, ActorKnown, no_actor}
use Rattle.chip_net.specs.Roots.{RootKnown, root_after}
use Rattle.chip_net.specs.Finish.{reads_from}
use Rattle.chip_net.specs.Traces.{trace_rows_of}
use Rattle.chip_net.specs.Meeting.{DidTheirs, IsRun}
use Rattle.chip_net.proofs.ReadingLemmas.{reads_feed_none}
use Rattle.chip_crew.specs.Plans.{is_fed_plan}
use Rattle.chip_crew.specs.Feeding.{Left, pairs}
use Rattle.chip_crew.specs.Finished.{IsWhole, IsFinished}
use Rattle.chip_crew.specs.declared.plan.Plan.{Plan}
use Rattle.chip_crew.specs.declared.plan.Sharing.{Sharing}
use Rattle.chip_crew.specs.declared.play.Finished.{Finished}
use Rattle.chip_crew.proofs.FinishingLemmas.{net_is}
use Rattle.chip_command.specs.Reports.{plain_status}
use Rattle.chip_command.specs.declared.ended.Ended.{Ended}
use Rattle.chip_command.proofs.OneReportLemmas.{one_report}
use Rattle.chip_run.specs.Feeding.{feeds_of}
use Rattle.chip_run.specs.Recording.{rows_kept, is_cut, is_any_cut}
use Rattle.chip_run.specs.RunCommand.{Outputs, RunAnswersFor}
use Rattle.chip_run.specs.Replaying.{rows_in, traces_in, all_rows, AreGivenOnce, FitTogether, WritesOneRun}
use Rattle.chip_run.specs.Laws.{RowsFit, UncutTracesFit, FedRowsFit}
use Rattle.chip_run.proofs.FitLemmas.{interleaves, times_fired, given_once}
use Rattle.chip_command.proofs.OneReportLemmas.{one_more}
use Rattle.chip_run.proofs.RunLemmas.{has_more, one_whole}

-- the actors of a crew, in the game that has all chips at the start, where no vertex is given chips more than once
module _ (shared : Sharing) (g : ChipGame) (feeds : Left) (plan : Plan) (f : Finished) (game : IsGame g)
    (is : IsFinished shared g feeds plan f) where
  ring_is_some : is_fed_plan g (pairs feeds) plan ≡ true → 0 < plan.ring
  ring_is_some within = grind (arith, nat_tests)

  abbrev t : Setting
  t = setting_with g plan.ring (is_some feeds)

  -- what the root fed in a log
  abbrev fed : Setting → Log → List (ℕ × ℕ)
  fed s log = fed_in s (done_by s (root s) log)

  crew_fits : (chips : List ℕ) → pairs feeds ≡ feeds_of chips → AreGivenOnce g (pairs feeds)
      → FitTogether is.whole (all_rows f.actors.items) f.outcome
  crew_fits chips feeds_are once =
      let closing : RootKnown = is.finished.ends.ends.root in
      let finishes = is.finished.ends.ends.finishes in
      let actors : List ActorKnown = f.actors.items in
      let run : IsRun (root_after closing (reads_from 0 finishes.words)) actors f.outcome =
      subst (λ (r : RootKnown). IsRun r actors f.outcome) finishes.record_is is.finished.run in
      let log : Log = run.log in
      let fed_is = ap (fed_in closing.net.setting) (sym run.agrees.root_did)
      ∙ reads_feed_none closing.net.setting closing.did 0 finishes.words ∙ is.fed in
      let (legal, did, outcome, fed_all) = subst (λ (s : Setting). IsLegalLog s log × DidTheirs s log actors
      × IsOutcomeOf s log f.outcome × (fed s log ≡ pairs feeds))
      (ap (λ (n : NetId). n.setting) (net_is feeds plan is.crew f is.finished) ∙ is.opened.setting)
      (run.legal, run.actors_did, run.outcome, fed_is) in
      let ring : 0 < plan.ring = ring_is_some is.opened.can.within in
      let more = given_by_the_record t game ring log legal in
      let one = given_once t game ring log legal chips (fed_all ∙ feeds_are) (subst (AreGivenOnce g) feeds_are once) in
      let count = is.finished.actors.count ∙ ap (λ (s : Setting). s.game.graph.vertices) is.opened.setting in
      let all : all_rows actors ≡ traces_in t log =
      fill_by_all (λ v. trace_rows_of (done_by t v log)) (all_rows actors) g.graph.vertices []
      (length-map actors (λ a. trace_rows_of a.did) ∙ count) (λ v l.
      let inside : v < length actors = subst (λ (n : ℕ). v < n) (sym count) l in
      let here = slice_get-get_or actors v no_actor inside in
      get_or-map (λ a. trace_rows_of a.did) actors v no_actor [] inside ∙ ap trace_rows_of (did v _ here)
      ∙ ap (λ (u : ℕ). trace_rows_of (done_by t u log)) (is.finished.actors.order v _ here).1) in
      let same = one_more g (pairs feeds) (played_game t log) is.whole (rw fed_all at more)
      (has_more g feeds is.whole is.whole_is) in
      subst (λ (h : ChipGame). FitTogether h (all_rows actors) f.outcome) same (record {
        rows = rows_in t log;
        interleaving = rw all (interleaves t game ring log legal one);
        fired = λ v. times_fired t game log legal v
            ∙ sym ((outcomes_tell t game ring log legal f.outcome outcome).comes.counted v ∙ counts_are t log v);
      })

-- ---- the results of `run`

writes_by : (shared : Sharing) (g : ChipGame) (feeds : Left) (plan : Plan) (old new : Outputs) (ended : Ended)
    → plan.seal ≡ None → IsGame g → (chips : List ℕ) → pairs feeds ≡ feeds_of chips
    → RunAnswersFor shared g feeds plan old new (Ok ended)
    → AreGivenOnce g (pairs feeds) → (whole : ChipGame) × IsWhole g feeds whole × WritesOneRun whole old new ended.cut
writes_by shared g feeds plan old new ended unsealed game chips feeds_are (actors, text, plays, records, out) once =
    let o : Outcome = plays.crew.outcome in
    let is = plays.finished in
    let reports = rw (one_whole g feeds plays.reports.0 is.whole plays.reports.1 is.whole_is) at plays.reports.3 in
    let same = one_report is.whole text (report_text o) ended.status (plain_status o) reports
    (o, is.played unsealed, refl, refl) in (
      is.whole,
      is.whole_is,
      record {
        actors = actors;
        outcome = o;
        fit = rw plays.actors_are (crew_fits shared g feeds plan plays.crew game is chips feeds_are once);
        report = rw same.0 at out;
        trace = records;
      },
    )

pub rows_fit : RowsFit
rows_fit limits graph_text chips_text limit shared plan old new ended unsealed (inl refused) = absurd refused
rows_fit limits graph_text chips_text limit shared plan old new ended unsealed (inr (g, Some feeds, means, run)) =
    absurd means.fed
rows_fit limits graph_text chips_text limit shared plan old new ended unsealed (inr (g, None, means, run)) =
    let (whole, whole_is, wrote) =
    writes_by shared g None plan old new ended unsealed means.game.game [] refl run (λ v l. inr refl) in
    (g, means.game, rw whole_is at wrote)

pub fed_rows_fit : FedRowsFit
fed_rows_fit limits graph_text chips_text feed limit shared plan old new ended unsealed (inl refused) = absurd refused
fed_rows_fit limits graph_text chips_text feed limit shared plan old new ended unsealed (inr (g, None, means, run)) =
    absurd means.fed
fed_rows_fit limits graph_text chips_text feed limit shared plan old new ended unsealed
    (inr (g, Some all, means, run)) = (
      g,
      all,
      means,
      writes_by shared g (Some all) plan old new ended unsealed means.game.game means.fed.0 means.fed.2 run,
    )

-- ---- where no row was cut

all_kept : (actors : List ActorKnown) → is_any_cut actors ≡ false → map rows_kept actors ≡ all_rows actors
all_kept [] uncut = refl
all_kept (a ∷ rest) uncut =
    let parts = or_parts (is_cut a) (is_any_cut rest) uncut in
    let all = take_all a.room (trace_rows_of a.did) (ltb-false a.room (length (trace_rows_of a.did)) parts.0) in
    rw (all, all_kept rest parts.1) refl

pub uncut_traces_fit : UncutTracesFit
uncut_traces_fit limits graph_text chips_text limit shared plan old_report new_report old_trace new_trace ended unsealed
    answers uncut =
    let (g, means, wrote) = rows_fit limits graph_text chips_text limit shared plan
    (record { report = old_report; trace = Some old_trace }) (record { report = new_report; trace = Some new_trace })
    ended unsealed answers in (
      g,
      means,
      record {
        traces = all_rows wrote.actors;
        outcome = wrote.outcome;
        fit = wrote.fit;
        report = wrote.report;
        trace = rw (all_kept wrote.actors (sym wrote.trace.cut_is ∙ uncut)) at wrote.trace.text;
      },
    )
