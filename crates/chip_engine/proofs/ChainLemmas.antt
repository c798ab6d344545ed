-- Serves Stages.antt.
-- Plays that go on, from text to text.
use Rattle.std.proofs.Common.{◌≡◌, ℕ, ◌+◌, List, [], ◌∷◌, codes, slice_index, true}
use Rattle.std.proofs.Common.{refl, sym, ◌∙◌, subst, inl, inr}
use Rattle.std.specs.Prelude.{◌&&◌}
use Rattle.std.proofs.lemmas.List.{append_cancel_left}
use Rattle.chip_graph.specs.Limits.{SizeLimits}
use Rattle.chip_graph.specs.Multigraph.{Multigraph}
use Rattle.chip_file.specs.GraphText.{MeansGraph}
use Rattle.chip_sequence.specs.Firing.{IsLegal}
use Rattle.chip_sequence.specs.Stages.{IsResumed, LeadsTo}
use Rattle.chip_sequence.specs.declared.resumed.Resumed.{Resumed}
use Rattle.chip_report.specs.ReportText.{is_empty, report_text}
use Rattle.chip_report.specs.ReportTwo.{StageContent, stage_content, report_two_text, IsAnyReportOf}
use Rattle.chip_report.proofs.ReportTwoLemmas.{one_stage, not_both}
use Rattle.chip_command.specs.Inputs.{ReadsWithin}
use Rattle.chip_engine.specs.ResumeCommand.{LeadsToTheEnd, ReportsOn}
use Rattle.chip_command.specs.Stage.{TellsPlayFrom}
use Rattle.chip_command.proofs.StageLemmas.{first_tells, report_tells}
use Rattle.chip_command.proofs.OneReportLemmas.{plain_reports}
use Rattle.chip_engine.specs.Stages.{IsResumedTo, AreResumed}
use Rattle.chip_core.specs.Positions.{chips_given}
use Rattle.chip_engine.specs.Stages.{PlainTellsPlay, SimulateTellsPlay, ResumedPlaysAddUp}
use Rattle.chip_engine.proofs.StageLemmas.{none_legal, leads_on}

-- ---- a first stage

-- a text means one graph, whatever the limits of its size
same_graph : (limits others : SizeLimits) (graph_text : List ℕ) (G H : Multigraph) → MeansGraph limits graph_text G
    → MeansGraph others graph_text H → G ≡ H
same_graph limits others graph_text G H one other = let a = one.meaning in let b = other.meaning in cc

pub plain_tells_play : PlainTellsPlay
plain_tells_play limits graph_text chips_text limit report status wrote g means =
    report_tells g means.game report status
    (plain_reports limits graph_text chips_text limit report status g means wrote)

pub simulate_tells_play : SimulateTellsPlay
simulate_tells_play g log end report status ends is =
    first_tells g.game.graph (chips_given g log) ends.outcome ends.reportable (
      _,
      record { sequence = ends.comes.sequence; counted = ends.comes.counted; position = ends.comes.position },
    )
    report (append_cancel_left (codes "root closed\n") report (report_text ends.outcome) (sym is ∙ ends.reported))

-- ---- later stages

-- the counts of a stage lead from x to its chips
abbrev LeadsInAll : Multigraph → (ℕ → ℕ) → StageContent → Type 0
LeadsInAll G x t = LeadsTo G x (λ v. slice_index t.prior v + slice_index t.last.fired v) (slice_index t.last.chips)

-- if it closed, it left no vertex legal
abbrev LeavesNone : Multigraph → StageContent → Type 0
LeavesNone G t = (is_empty t.last.over && is_empty t.last.sealed) ≡ true
    → (v : ℕ) → IsLegal G (slice_index t.last.chips) v → ⊥

-- any two stages that are read from one report agree
read_again : (report : List ℕ) (s : Resumed) → IsResumed s → report ≡ report_two_text s
    → (r : Resumed) → IsAnyReportOf report r → stage_content s ≡ stage_content r
read_again report s fits spelled r (inl first) =
    absurd (not_both report r.outcome s first.0 (record { reportable = fits; spelled = spelled }))
read_again report s fits spelled r (inr two) = one_stage s r fits two.reportable (sym spelled ∙ two.spelled)

module _ (limits : SizeLimits) (graph_text : List ℕ) (G : Multigraph)
    (reads : ReadsWithin limits graph_text (MeansGraph limits graph_text G)) (x : ℕ → ℕ) where
  -- a report that `resume` wrote, given one of a play, is one of the play that goes on
  goes_on : (before : List ℕ) → TellsPlayFrom G x before → (report : List ℕ) → IsResumedTo graph_text before report
      → (r : Resumed) → IsAnyReportOf report r → LeadsToTheEnd G x r
  goes_on before tells report (others, limit, ended, resumed) r is =
      let (text, (H, H_means, (earlier, told, H_on)), wrote, cut) = resumed.answer in
      let graphs : H ≡ G = same_graph others limits graph_text H G (H_means graph_text refl).1 reads.1 in
      let on : ReportsOn G earlier limit text ended.status =
      subst (λ (K : Multigraph). ReportsOn K earlier limit text ended.status) graphs H_on in
      let same = read_again report on.resumed on.goes_on.in_range (wrote ∙ on.reported) r is in
      leads_on G reads.1.valid.graph x r
      (subst (LeadsInAll G x) same (on.adds_up x (tells earlier (told.0 before refl).1.0)).leads)
      (subst (LeavesNone G) same (none_legal _ on.resumed.outcome on.goes_on.played))

  -- and so are all that follow
  all_tell : (first : List ℕ) → TellsPlayFrom G x first → (reports : List (List ℕ)) (last : List ℕ)
      → AreResumed graph_text first reports last → TellsPlayFrom G x last
  all_tell first tells [] last are = subst (TellsPlayFrom G x) are tells
  all_tell first tells (report ∷ reports) last are =
      all_tell report (λ r is. (goes_on first tells report are.0 r is).leads) reports last are.1

pub resumed_plays_add_up : ResumedPlaysAddUp
resumed_plays_add_up limits graph_text G reads x first tells reports before last are on =
    goes_on limits graph_text G reads x before
    (all_tell limits graph_text G reads x first tells reports before are) last on
