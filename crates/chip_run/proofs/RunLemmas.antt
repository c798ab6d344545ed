-- Serves RunCommand.antt, Feeding.antt, Recording.antt, Laws.antt.
-- From the parts of the engine to its whole; and what `run` wrote is what `plain` wrote.
use Rattle.std.proofs.Common.{◌≡◌, ℕ, Bool, false, refl, subst, List, map, Option, Some, None, Result, Ok, Err, IfOk}
use Rattle.std.proofs.Common.{inl, inr, [], sym, ap, ◌∙◌, unwrap_or, arith}
use Rattle.chip_graph.specs.Limits.{SizeLimits}
use Rattle.chip_graph.specs.ChipGame.{ChipGame, IsGame}
use Rattle.chip_crew.specs.declared.plan.Plan.{Plan}
use Rattle.chip_crew.specs.declared.plan.Sharing.{Sharing}
use Rattle.chip_link.specs.declared.trace.TraceRow.{TraceRow}
use Rattle.chip_net.specs.Tokens.{ActorKnown}
use Rattle.chip_trace.specs.TraceText.{trace_text, WritesText}
use Rattle.chip_trace.specs.declared.fault.TraceFault.{TraceFault}
use Rattle.chip_trace.specs.declared.fault.TraceFault.TheVariants as trace
use Rattle.chip_command.specs.Faults.{fault_of_trace}
use Rattle.chip_command.specs.Inputs.{MeansGame}
use Rattle.chip_command.specs.declared.ended.Ended.{Ended}
use Rattle.chip_command.specs.declared.fault.Fault.{Fault}
use Rattle.chip_command.specs.Reports.{Delivers, Reports}
use Rattle.chip_command.proofs.InputLemmas.{Keeps-same}
use Rattle.chip_crew.specs.Feeding.{Left, pairs}
use Rattle.chip_crew.specs.Finished.{IsFaultOf, IsWhole, StaysWithin}
use Rattle.chip_crew.specs.declared.fault.CrewFault.{CrewFault}
use Rattle.chip_crew.specs.declared.fault.CrewFault.TheVariants as crew
use Rattle.chip_run.specs.Feeding.{ForText, MeansFed, MeansFedGame, feeds_of}
use Rattle.chip_run.specs.Recording.{rows_kept, RecordsIfAsked, FailsToRecord}
use Rattle.chip_run.specs.RunCommand.{RunAnswers, RunAnswersFor, Outputs, KeepsBoth, IsNotPlayed, PlaysByCrew, WritesReport}
use Rattle.chip_run.specs.RunCommand.{RunReads, RunReports, ReportsFed}
use Rattle.chip_run.specs.RunCommand.{fault_of_crew, ReportsSome, ReportsSomeRun}
use Rattle.chip_graph.specs.Multigraph.{Multigraph, IsGraph}
use Rattle.chip_graph.specs.More.{HasMore}
use Rattle.chip_command.proofs.OneReportLemmas.{one_report, one_game, one_more, plain_reports}
use Rattle.chip_command.proofs.StageLemmas.{report_tells}
use Rattle.chip_run.specs.Laws.{SameBytes, SameBytesFed, RunWrote, RunTellsPlay}

-- what is known of a text is all that follows of it
pub for_text : (left : Option (Option (List ℕ))) (P Q : Option (List ℕ) → Type 0)
    → ((text : Option (List ℕ)) → P text → Q text) → ForText left P → ForText left Q
for_text None P Q then known = then None known
for_text (Some left) P Q then known = λ text is. then (Some text) (known text is)

-- what holds of each text holds of the one that is left
pub for_each_text : (left : Option (Option (List ℕ))) (Q : Option (List ℕ) → Type 0)
    → ((text : Option (List ℕ)) → Q text) → ForText left Q
for_each_text None Q each = each None
for_each_text (Some left) Q each = λ text is. each (Some text)

-- nothing was written
pub keeps_both : (o : Outputs) → KeepsBoth o o
keeps_both o = record { report = Keeps-same o.report; trace = refl }

-- what `run` wrote that ended well is the plain player's report
writes_report : (limits : SizeLimits) (shared : Sharing) (graph_text chips_text : List ℕ)
    (feed_text : Option (List ℕ)) (limit : ℕ) (plan : Plan) (old new : Outputs) (result : Result Ended Fault)
    → RunAnswers limits shared graph_text chips_text feed_text limit plan old new result
    → IfOk result (WritesReport limits graph_text chips_text feed_text limit old.report new.report)
writes_report limits shared graph_text chips_text feed_text limit plan old new (Err f) answers = tt
writes_report limits shared graph_text chips_text feed_text limit plan old new (Ok ended) (inl refused) =
    absurd refused
writes_report limits shared graph_text chips_text feed_text limit plan old new (Ok ended)
    (inr (g, feeds, means, (actors, text, plays, records, out))) = (g, feeds, means, text, plays.reports, out)

pub run_reports : (limits : SizeLimits) (shared : Sharing) (graph chips : Option (List ℕ))
    (feed : Option (Option (List ℕ))) (limit : ℕ) (plan : Plan) (old new : Option (List ℕ))
    (old_trace new_trace : Option (Option (List ℕ))) (result : Result Ended Fault)
    → RunReads limits shared graph chips feed limit plan (record { report = old; trace = old_trace })
    (record { report = new; trace = new_trace }) result → RunReports limits graph chips feed limit old new result
run_reports limits shared graph chips feed limit plan old new old_trace new_trace result answers =
    λ graph_text graph_is chips_text chips_is. for_text feed _ _ (λ feed_text. writes_report limits shared graph_text
    chips_text feed_text limit plan (record { report = old; trace = old_trace })
    (record { report = new; trace = new_trace }) result) (answers graph_text graph_is chips_text chips_is)

-- a game and the feeds that a text has for the vertices of its graph
pub means_fed : (limits : SizeLimits) (graph_text chips_text : List ℕ) (feed_text : Option (List ℕ)) (limit : ℕ)
    (g : ChipGame) (feeds : Left) (vertices : ℕ) → vertices ≡ g.graph.vertices
    → MeansGame limits graph_text chips_text limit g → MeansFed limits feed_text vertices feeds
    → MeansFedGame limits graph_text chips_text feed_text limit g feeds
means_fed limits graph_text chips_text feed_text limit g feeds vertices same game fed =
    record { game = game; fed = subst (λ (n : ℕ). MeansFed limits feed_text n feeds) same fed }

-- the report of a crew that finished the game was written after its trace, or its output failed
pub delivered_run : (shared : Sharing) (g : ChipGame) (feeds : Left) (plan : Plan) (old new : Option (List ℕ))
    (old_trace new_trace : Option (Option (List ℕ))) (actors : List ActorKnown) (text : List ℕ) (status : ℕ)
    (cut : Bool) → PlaysByCrew shared g feeds plan actors text status → RecordsIfAsked actors old_trace new_trace cut
    → (result : Result Ended Fault) → Delivers old new text (record { status = status; cut = cut }) result
    → RunAnswersFor shared g feeds plan (record { report = old; trace = old_trace })
    (record { report = new; trace = new_trace }) result
delivered_run shared g feeds plan old new old_trace new_trace actors text status cut plays records (Ok ended) went =
    rw went.0 (actors, text, plays, records, went.1)
delivered_run shared g feeds plan old new old_trace new_trace actors text status cut plays records (Err f) failed =
    inr (inr (actors, text, status, plays, cut, records, failed.0, failed.1, failed.2))

-- why the rows of these actors were not written, by the fault of what writes their text
pub fails_by : (actors : List ActorKnown) (old new : Option (List ℕ)) (traces : List (List TraceRow))
    → traces ≡ map rows_kept actors → (e : TraceFault) → WritesText old new (trace_text traces) (Err e)
    → FailsToRecord actors (Some old) (Some new) (fault_of_trace e)
fails_by actors old new traces is trace.Write wrote = rw is at wrote
fails_by actors old new traces is trace.NoMemory wrote = wrote

-- a crew whose gate may never return false did not finish: its fault is that of one whose gate is never shut
pub not_played : (shared : Sharing) (g : ChipGame) (feeds : Left) (plan : Plan) (may_answer : ℕ → ℕ → Bool → Type 0)
    → ((worker turn : ℕ) → may_answer worker turn false → ⊥) → (e : CrewFault) (f : Fault)
    → IsFaultOf shared g feeds plan may_answer e → f ≡ fault_of_crew e → IsNotPlayed shared g feeds plan f
not_played shared g feeds plan may_answer never crew.GateShut f (can, (worker, turn, in_crew, in_turns, shut)) same =
    absurd (never worker turn shut)
not_played shared g feeds plan may_answer never e f is same = inl (e, is, same)

-- ---- what a crew plays

one_feed : (limits bounds : SizeLimits) (text : Option (List ℕ)) (vertices : ℕ) (a b : Left)
    → MeansFed limits text vertices a → MeansFed bounds text vertices b → a ≡ b
one_feed limits bounds None vertices None None p q = refl
one_feed limits bounds None vertices None (Some feeds) p q = absurd q
one_feed limits bounds None vertices (Some feeds) b p q = absurd p
one_feed limits bounds (Some text) vertices None b p q = absurd p
one_feed limits bounds (Some text) vertices (Some feeds) None p q = absurd q
one_feed limits bounds (Some text) vertices (Some feeds) (Some others) (chips, reads, is) (chips', reads', is') =
    ap Some (is ∙ ap feeds_of (ap (λ (o : Option (List ℕ)). unwrap_or o chips) (sym reads.1 ∙ reads'.1)) ∙ sym is')

-- with all chips at the start a game has as many more as are fed
pub has_more : (g : ChipGame) (feeds : Left) (whole : ChipGame) → IsWhole g feeds whole → HasMore g (pairs feeds) whole
has_more g (Some feeds) whole is = is
has_more g None whole is = subst (HasMore g []) (sym is) (record {
  same_graph = refl;
  same_limit = refl;
  start_each = refl;
  start = λ v l. omega arith;
  total = omega arith;
})

pub one_whole : (g : ChipGame) (feeds : Left) (a b : ChipGame) → IsWhole g feeds a → IsWhole g feeds b → a ≡ b
one_whole g feeds a b p q = one_more g (pairs feeds) a b (has_more g feeds a p) (has_more g feeds b q)

-- with all chips at the start a game is within the limits where the fed chips stay within the total
pub whole_fits : (g : ChipGame) → IsGame g → (feeds : Left) → StaysWithin g feeds → (whole : ChipGame)
    → IsWhole g feeds whole → IsGame whole
whole_fits g fits None within whole is = subst IsGame (sym is) fits
whole_fits g fits (Some feeds) within whole is =
    record {
      graph_fits = subst IsGraph (sym is.same_graph) fits.graph_fits;
      start_fits = is.start_each ∙ fits.start_fits ∙ ap (λ (G : Multigraph). G.vertices) (sym is.same_graph);
      few_chips = (let t = is.total in omega arith);
      low_limit = (let a = fits.low_limit in let b = is.same_limit in omega arith);
    }

-- what a crew plays is the report of some game
pub plays_some : (shared : Sharing) (g : ChipGame) (feeds : Left) (plan : Plan) (actors : List ActorKnown)
    (text : List ℕ) (status : ℕ) → PlaysByCrew shared g feeds plan actors text status → ReportsSome text status
plays_some shared g feeds plan actors text status plays = let whole = plays.reports in
    (whole.0, whole.2, whole.3)

pub delivered_some : (old new : Option (List ℕ)) (text : List ℕ) (status : ℕ) (cut : Bool) → ReportsSome text status
    → (result : Result Ended Fault) → Delivers old new text (record { status = status; cut = cut }) result
    → ReportsSomeRun old new result
delivered_some old new text status cut some (Ok ended) went = rw went.0 (text, some, went.1)
delivered_some old new text status cut some (Err f) failed = inr (text, status, some, failed.0, failed.1, failed.2)

-- ---- one report for the texts

-- what `run` wrote is the report of the game that has all chips at the start, which is within the limits
run_wrote : (graph_text chips_text : List ℕ) (feed_text : Option (List ℕ)) (limit : ℕ) (report : List ℕ)
    (status : ℕ) → RunWrote graph_text chips_text feed_text limit report status → (limits : SizeLimits) (g : ChipGame)
    (feeds : Left) → MeansFedGame limits graph_text chips_text feed_text limit g feeds → (whole : ChipGame)
    → IsWhole g feeds whole → IsGame whole × Reports whole report status
run_wrote graph_text chips_text feed_text limit report status
    (mine, ended, (g', feeds', means', told, all, out), s_is) limits g feeds means whole is =
    let game : g' ≡ g = one_game mine limits graph_text chips_text limit g' g means'.game means.game in
    let fed = one_feed mine limits feed_text g.graph.vertices feeds' feeds
    (subst (λ (k : ChipGame). MeansFed mine feed_text k.graph.vertices feeds') game means'.fed) means.fed in
    let reports : ReportsFed g feeds told ended.status = rw (game, fed) at all in
    subst (λ (z : ChipGame × List ℕ × ℕ). IsGame z.0 × Reports z.0 z.1 z.2)
    (λ i. (one_whole g feeds reports.0 whole reports.1 is i, sym out i, sym s_is i)) (reports.2, reports.3)

pub same_bytes_fed : SameBytesFed
same_bytes_fed graph_text chips_text feed_text limit whole_graph whole_chips
    (g, feeds, fed_by, means, whole, mine, whole_means, is_whole) one other s t ran wrote =
    one_report whole one other s t
    (run_wrote graph_text chips_text feed_text limit one s ran fed_by g feeds means whole is_whole).1
    (plain_reports mine whole_graph whole_chips limit other t whole whole_means wrote)

pub run_tells_play : RunTellsPlay
run_tells_play graph_text chips_text feed_text limit report status ran limits g feeds means whole is_whole =
    let (game, reports) = run_wrote graph_text chips_text feed_text limit report status ran limits g feeds means whole
    is_whole in report_tells whole game report status reports

-- where nothing is fed, the whole game is the game
pub same_bytes : SameBytes
same_bytes graph_text chips_text limit one other s t ran (limits, done, (h, means, text, reports, out), t_is) =
    same_bytes_fed graph_text chips_text None limit graph_text chips_text
    (h, None, limits, record { game = means; fed = tt }, h, limits, means, refl) one other s t ran
    (limits, done, (h, means, text, reports, out), t_is)
