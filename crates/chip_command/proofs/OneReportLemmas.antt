-- Serves OneReport.antt, PlainCommand.antt: all that is reported of a game follows from the game, and texts mean one
-- game.
use Rattle.std.proofs.Common.{◌≡◌, ◌<◌, ℕ, List, length, Option, refl, sym, ap, ◌∙◌, slice_index, unwrap_or, arith}
use Rattle.std.proofs.Common.{Result, Ok, Err}
use Rattle.std.proofs.lemmas.List.{same_lists, get_or_default}
use Rattle.chip_graph.specs.Limits.{SizeLimits}
use Rattle.chip_graph.specs.Multigraph.{Multigraph}
use Rattle.chip_graph.specs.ChipGame.{ChipGame}
use Rattle.chip_graph.specs.More.{HasMore}
use Rattle.chip_file.specs.ChipsText.{chips_of_text}
use Rattle.chip_sequence.specs.Firing.{legal_vertices}
use Rattle.chip_sequence.specs.Play.{IsPlayed}
use Rattle.chip_sequence.specs.declared.outcome.Outcome.{Outcome}
use Rattle.chip_report.specs.ReportText.{report_text}
use Rattle.chip_command.specs.Inputs.{MeansGame}
use Rattle.chip_command.specs.OneReport.{OneReport, PlainWrote}
use Rattle.chip_command.specs.PlainCommand.{PlainAnswers, PlainReports}
use Rattle.chip_command.specs.declared.ended.Ended.{Ended}
use Rattle.chip_command.specs.declared.fault.Fault.{Fault}
use Rattle.chip_command.specs.Reports.{Reports, plain_status}

-- numbers that are the same at each place
pub same_numbers : (xs ys : List ℕ) → length xs ≡ length ys
    → ((v : ℕ) → v < length xs → slice_index xs v ≡ slice_index ys v) → xs ≡ ys
same_numbers xs ys each same = same_lists xs ys each
    (λ k d below. get_or_default xs k d 0 below ∙ same k below ∙ get_or_default ys k 0 d (omega arith))

-- ---- one outcome for a game

module _ (g : ChipGame) (one other : Outcome) (p : IsPlayed g one) (q : IsPlayed g other) where
  same_fired : one.fired.items ≡ other.fired.items
  same_fired = same_numbers one.fired.items other.fired.items (p.fired_each ∙ sym q.fired_each)
      (λ v below. p.counted p.ends.0 p.ends.1 v ∙ sym (q.counted p.ends.0 p.ends.1 v))

  same_chips : one.chips.items ≡ other.chips.items
  same_chips = same_numbers one.chips.items other.chips.items (p.chips_each ∙ sym q.chips_each)
      (λ v below. p.position p.ends.0 p.ends.1 v ∙ sym (q.position p.ends.0 p.ends.1 v))

  same_over : one.over.items ≡ other.over.items
  same_over = p.over ∙ ap (λ (xs : List ℕ). legal_vertices g.graph (slice_index xs)) same_chips ∙ sym q.over

  same_sealed : one.sealed.items ≡ other.sealed.items
  same_sealed = p.sealed ∙ sym q.sealed

  same_report : (report_text one ≡ report_text other) × (plain_status one ≡ plain_status other)
  same_report = (rw (same_fired, same_chips, same_over, same_sealed) refl, rw (same_over, same_sealed) refl)

pub one_report : OneReport
one_report g one other s t (o, p, one_is, s_is) (o', p', other_is, t_is) =
    let same = same_report g o o' p p' in (one_is ∙ same.0 ∙ sym other_is, s_is ∙ same.1 ∙ sym t_is)

-- ---- one game for the texts

pub same_games : (a b : ChipGame) → a.graph ≡ b.graph → a.start ≡ b.start → a.limit ≡ b.limit → a ≡ b
same_games a b graph start limit = rw (graph, start, limit) refl

pub one_game : (limits others : SizeLimits) (graph_text chips_text : List ℕ) (limit : ℕ) (a b : ChipGame)
    → MeansGame limits graph_text chips_text limit a
    → MeansGame others graph_text chips_text limit b → a ≡ b
one_game limits others graph_text chips_text limit a b p q =
    let x = p.named in let y = q.named in
    let graph : a.graph ≡ b.graph = ap (λ (o : Option Multigraph). unwrap_or o a.graph)
    (sym x.graph.1.meaning ∙ y.graph.1.meaning) in
    let start : a.start ≡ b.start = ap (λ (o : Option (List ℕ)). unwrap_or o a.start)
    (sym x.start.1 ∙ ap (λ (G : Multigraph). chips_of_text G.vertices chips_text) graph ∙ y.start.1) in
    same_games a b graph start (x.limited ∙ sym y.limited)

-- adding chips to the start of a game gives one game
pub one_more : (g : ChipGame) (more : List (ℕ × ℕ)) (a b : ChipGame) → HasMore g more a → HasMore g more b → a ≡ b
one_more g more a b p q = same_games a b (p.same_graph ∙ sym q.same_graph)
    (same_numbers a.start b.start (p.start_each ∙ sym q.start_each)
    (λ v below. let each = p.start_each in p.start v (omega arith) ∙ sym (q.start v (omega arith))))
    (p.same_limit ∙ sym q.same_limit)

-- what `plain` writes is the report of the game that its texts mean
pub plain_writes : (limits : SizeLimits) (graph chips : Option (List ℕ)) (limit : ℕ) (old new : Option (List ℕ))
    (result : Result Ended Fault) → PlainAnswers limits graph chips limit old new result
    → PlainReports limits graph chips limit old new result
plain_writes limits graph chips limit old new (Err fault) answers = λ graph_text graph_is chips_text chips_is. tt
plain_writes limits graph chips limit old new (Ok ended) answers = λ graph_text graph_is chips_text chips_is.
    let (text, (g, gave, reports), out, cut) = answers.answer in
    (g, gave.means graph_text graph_is chips_text chips_is, text, reports, out)

-- what `plain` wrote is the report of the game that the texts mean
pub plain_reports : (limits : SizeLimits) (graph_text chips_text : List ℕ) (limit : ℕ) (report : List ℕ) (status : ℕ)
    (g : ChipGame) → MeansGame limits graph_text chips_text limit g
    → PlainWrote graph_text chips_text limit report status → Reports g report status
plain_reports limits graph_text chips_text limit report status g means
    (others, ended, (h, h_means, text, reports, out), status_is) =
    let wrote : report ≡ text = out in
    rw (wrote, status_is, ← one_game others limits graph_text chips_text limit h g h_means means) reports
