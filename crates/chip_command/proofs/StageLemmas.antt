-- Serves Stage.antt.
-- What the report of a first stage says.
use Rattle.std.proofs.Common.{◌≡◌, ℕ, List, length, slice_index, sym, ◌∙◌, subst, arith, inl, inr}
use Rattle.std.specs.Prelude.{replicate}
use Rattle.std.proofs.lemmas.Grind.{common_steps}
use Rattle.chip_graph.specs.Multigraph.{Multigraph}
use Rattle.chip_graph.specs.ChipGame.{ChipGame, IsGame}
use Rattle.chip_sequence.specs.Outcomes.{IsOutcome}
use Rattle.chip_sequence.specs.Stages.{LeadsTo, fired_in_all}
use Rattle.chip_sequence.specs.declared.outcome.Outcome.{Outcome}
use Rattle.chip_sequence.proofs.StageLemmas.{played_is_stage}
use Rattle.chip_sequence.proofs.OutcomeLemmas.{outcome_is}
use Rattle.chip_report.specs.ReportText.{report_text}
use Rattle.chip_report.specs.Reportable.{Content}
use Rattle.chip_report.proofs.ReportLemmas.{one_outcome}
use Rattle.chip_report.proofs.ReportTwoLemmas.{not_both}
use Rattle.chip_command.specs.Reports.{Reports}
use Rattle.chip_command.specs.Stage.{TellsPlayFrom}

-- no firings before
none_before : (n v : ℕ) → slice_index (replicate n 0) v ≡ 0
none_before n v = grind (arith, common_steps)

-- what an outcome reports leads from x to its chips
abbrev Leads : Multigraph → (ℕ → ℕ) → Content → Type 0
Leads G x t = LeadsTo G x (slice_index t.fired) (slice_index t.chips)

-- the report of an outcome whose counts lead to its chips describes a play
pub first_tells : (G : Multigraph) (x : ℕ → ℕ) (o : Outcome) → IsOutcome o
    → LeadsTo G x (slice_index o.fired.items) (slice_index o.chips.items)
    → (report : List ℕ) → report ≡ report_text o → TellsPlayFrom G x report
first_tells G x o fits leads report spelled r (inl first) =
    let of_it : LeadsTo G x (slice_index r.outcome.fired.items) (slice_index r.outcome.chips.items) =
    subst (Leads G x) (one_outcome o r.outcome fits first.0.reportable (sym spelled ∙ first.0.spelled)) leads in
    let in_all : (v : ℕ) → slice_index r.outcome.fired.items v ≡ fired_in_all r v =
    (λ v. let none = none_before (length r.outcome.fired.items) v in let first = first.1 in grind arith) in
    subst (λ (f : ℕ → ℕ). LeadsTo G x f (slice_index r.outcome.chips.items)) (λ i v. in_all v i) of_it
first_tells G x o fits leads report spelled r (inr two) =
    absurd (not_both report o r (record { reportable = fits; spelled = spelled }) two)

-- the report of a game played to its end describes a play from its start
pub report_tells : (g : ChipGame) → IsGame g → (text : List ℕ) (status : ℕ) → Reports g text status
    → TellsPlayFrom g.graph (slice_index g.start) text
report_tells g fits text status (o, played, spelled, s) =
    first_tells g.graph (slice_index g.start) o (outcome_is g fits o played) (played_is_stage g o played) text spelled
