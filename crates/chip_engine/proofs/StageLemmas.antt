-- Serves ResumeCommand.antt.
-- Plays that go on, from the report of one stage to the report of the next.
use Rattle.std.proofs.Common.{◌≡◌, ◌⊎◌, ℕ, ◌≤◌, true, List, [], ◌∷◌, Contains, length, slice_index}
use Rattle.std.proofs.Common.{refl, sym, ap, ◌∙◌, subst, arith, inl, inr}
use Rattle.std.specs.Prelude.{All}
use Rattle.std.proofs.lemmas.Bool.{and_parts}
use Rattle.std.proofs.lemmas.List.{length-replicate}
use Rattle.std.proofs.lemmas.List.Elements.{All-replicate}
use Rattle.chip_graph.specs.Limits.{SizeLimits}
use Rattle.chip_graph.specs.Multigraph.{Multigraph, IsGraph}
use Rattle.chip_graph.specs.ChipGame.{ChipGame}
use Rattle.chip_sequence.specs.Firing.{IsLegal, legal_vertices}
use Rattle.chip_sequence.specs.Play.{IsPlayed}
use Rattle.chip_sequence.specs.Stages.{IsResumed, IsPlayFrom, fired_in_all, max_prior}
use Rattle.chip_sequence.specs.declared.outcome.Outcome.{Outcome}
use Rattle.chip_sequence.specs.declared.resumed.Resumed.{Resumed}
use Rattle.chip_sequence.proofs.LegalLemmas.{legal_vertices_law}
use Rattle.chip_sequence.proofs.StageLemmas as stages
use Rattle.chip_report.specs.ReportText.{is_empty, is_closed}
use Rattle.chip_report.specs.ReportTwo.{IsAnyReportOf, IsNoReportAtAllWithin}
use Rattle.chip_report.specs.declared.fault.ReportFault.{ReportFault}
use Rattle.chip_report.specs.declared.fault.ReportFault.TheVariants as report_fault
use Rattle.chip_file.specs.declared.fault.FileFault.TheVariants as file_fault
use Rattle.chip_command.specs.Faults.{fault_of_report}
use Rattle.chip_engine.specs.ResumeCommand.{LeadsToTheEnd, RefusesReport}

-- the stage of a report is in range
pub resumed_of_report : (bytes : List ℕ) (r : Resumed) → IsAnyReportOf bytes r → IsResumed r
resumed_of_report bytes r (inl first) = record {
  outcome_fits = first.0.reportable;
  prior_each = ap length first.1 ∙ length-replicate (length r.outcome.fired.items) 0;
  few_before = subst (All (λ n. n ≤ max_prior)) (sym first.1)
      (All-replicate (λ n. n ≤ max_prior) (length r.outcome.fired.items) 0 (omega arith));
}
resumed_of_report bytes r (inr two) = two.reportable

empty_nil : (l : List ℕ) → is_empty l ≡ true → l ≡ []
empty_nil [] is = refl
empty_nil (x ∷ xs) is = cc

-- a stage that closed left no vertex legal
abbrev pub LeavesNoneLegal : Multigraph → Outcome → Type 0
LeavesNoneLegal G o = is_closed o ≡ true → (v : ℕ) → IsLegal G (slice_index o.chips.items) v → ⊥

-- if the limit halted no vertex, none is legal
pub none_legal : (g : ChipGame) (o : Outcome) → IsPlayed g o → LeavesNoneLegal g.graph o
none_legal g o played closed v can =
    let none : legal_vertices g.graph (slice_index o.chips.items) ≡ [] = sym played.over
    ∙ empty_nil o.over.items (and_parts (is_empty o.over.items) (is_empty o.sealed.items) closed).0 in
    let has : Contains [] v = subst (λ (l : List ℕ). Contains l v) none
    ((legal_vertices_law g.graph (slice_index o.chips.items) v).1 can) in
    let past = has.1 in omega arith

-- a play that leads from x to a stage leads to the end of the play that was never stopped
pub leads_on : (G : Multigraph) → IsGraph G → (x : ℕ → ℕ) (r : Resumed) → IsPlayFrom G x r
    → LeavesNoneLegal G r.outcome → LeadsToTheEnd G x r
leads_on G good x r leads none =
    let alike = stages.ends_alike G good x (fired_in_all r) (slice_index r.outcome.chips.items) leads in record {
      leads = leads;
      ends_alike = alike;
      closed = λ closed. record {
        counted = λ vs ok ended v. (let same = (alike [] tt (none closed) vs ok ended).0 v in omega arith);
        position = λ vs ok ended v. (alike [] tt (none closed) vs ok ended).1 v;
      };
    }

-- bytes that are no report, or want of memory
pub refused_report : (limits : SizeLimits) (text : List ℕ) (f : ReportFault) → length text ≤ limits.bytes
    → (f ≡ report_fault.NoMemory) ⊎ ((f ≡ report_fault.NotReport) × IsNoReportAtAllWithin limits text)
    → RefusesReport limits text (fault_of_report f)
refused_report limits text f short (inl none) =
    inl (file_fault.NoMemory, ap fault_of_report none, inl (inr refl))
refused_report limits text f short (inr nothing) = inr ((short, nothing.1), ap fault_of_report nothing.0)
