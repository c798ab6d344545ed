use Rattle.std.proofs.Common.{◌≡◌, ℕ, ◌≤◌, List, length, Option, Some, None, Result, Ok, Err}
use Rattle.std.proofs.Common.{refl, sym, ap, ◌∙◌, arith, inl, inr, ⊎_elim}
use Rattle.std.proofs.lemmas.Bool.Decides.{nat_tests}
use Rattle.chip_graph.specs.Laws.{OneFault}
use Rattle.chip_graph.specs.Limits.{SizeLimits}
use Rattle.chip_graph.specs.Multigraph.{Multigraph}
use Rattle.chip_graph.specs.ChipGame.{ChipGame}
use Rattle.chip_graph.specs.Faults.{fault_of_game}
use Rattle.chip_graph.specs.declared.fault.GameFault.{GameFault}
use Rattle.chip_file.specs.ChipsText.{chips_text_fault}
use Rattle.chip_file.specs.GraphText.{MeansGraph, IsGraphTextFault}
use Rattle.chip_file.specs.declared.fault.FileFault.{FileFault}
use Rattle.chip_file.specs.declared.fault.FileFault.TheVariants as file
use Rattle.chip_command.specs.CommandAnswers.{AnswersBy}
use Rattle.chip_command.specs.FaultNumbers.{command_fault_number}
use Rattle.chip_command.specs.Faults.{fault_of_file}
use Rattle.chip_command.specs.Inputs.{NamesGame, RefusesInputs, RefusesText, GaveGame}
use Rattle.chip_command.specs.PlainCommand.{plain_spec}
use Rattle.chip_command.specs.declared.ended.Ended.{Ended}
use Rattle.chip_command.specs.declared.fault.Fault.{Fault}
use Rattle.chip_command.specs.declared.fault.Fault.TheVariants.{Game}
use Rattle.chip_command.proofs.OneReportLemmas.{same_games}
use Rattle.chip_command.proofs.RoundTripLemmas.{given}
use Rattle.chip_library.specs.Batch.{game_at}
use Rattle.chip_library.specs.EdgeLists.{graph_of}
use Rattle.chip_agree.specs.Reported.{EndsByNumber}
use Rattle.chip_agree.proofs.laws.games_are_refused.Goals as goal

-- a text that means a graph has no fault
means_none : OneFault → (limits : SizeLimits) (text : List ℕ) (G : Multigraph) → MeansGraph limits text G
    → (f : FileFault) → IsGraphTextFault limits text f → ⊥
means_none one limits text G means file.Shape (d, json, none) = cc (rw (json, none) at means.meaning)
means_none one limits text G means (file.Graph f) (graph, is, fault) =
    let same : graph ≡ G = cc (is, means.meaning) in (one limits G f (rw same at fault)).0 means.valid
means_none one limits text G means _ fault = grind (arith, nat_tests, means.meaning)

module _ (one : OneFault) (limits : SizeLimits) (graph_text chips_text : List ℕ) (limit : ℕ) (g : ChipGame)
    (named : NamesGame limits graph_text chips_text limit g) (f : GameFault) (faulty : fault_of_game g ≡ Some f) where
  -- the texts name one game
  one_named : (h : ChipGame) → NamesGame limits graph_text chips_text limit h → h ≡ g
  one_named h names =
      let graph : h.graph ≡ g.graph = cc (names.graph.1.meaning, named.graph.1.meaning) in
      same_games h g graph (cc (names.start.1, named.start.1)) (names.limited ∙ sym named.limited)

  -- so the readers give no game
  no_game : (h : ChipGame) → GaveGame limits (Some graph_text) (Some chips_text) limit h → ⊥
  no_game h gave =
      let means = gave.means graph_text refl chips_text refl in
      let game = rw (one_named h means.named) at means.game in
      let none : fault_of_game g ≡ None = grind (arith, nat_tests) in cc (none, faulty)

  -- the machine alone refuses a text without a fault
  read_none : (text : List ℕ) (IsFault : FileFault → Type 0) (fault : Fault) → length text ≤ limits.bytes
      → ((k : FileFault) → IsFault k → ⊥) → RefusesText limits text IsFault fault
      → EndsByNumber (command_fault_number (Game f)) (Err fault)
  read_none text IsFault fault short none (k, is, why) =
      ⊎_elim
      (⊎_elim (λ read. inr (inl (is ∙ ap fault_of_file read))) (λ memory. inr (inr (is ∙ ap fault_of_file memory))))
      (⊎_elim (λ long. absurd (omega (arith, long.0))) (λ bad. absurd (none k bad.1))) why

  -- the inputs are refused with the number of the game's fault
  inputs_refused : (fault : Fault) → RefusesInputs limits graph_text chips_text limit fault
      → EndsByNumber (command_fault_number (Game f)) (Err fault)
  inputs_refused fault (inl graph) =
      read_none graph_text _ fault named.graph.0 (means_none one limits graph_text g.graph named.graph.1) graph
  inputs_refused fault (inr (inl (G, reads, chips))) =
      let same : G ≡ g.graph = cc (reads.1.meaning, named.graph.1.meaning) in
      let fine = given (chips_text_fault g.graph.vertices chips_text) _ g.start named.start.1 in
      read_none chips_text _ fault named.start.0 (λ k is. cc fine.0) chips
  inputs_refused fault (inr (inr (h, names, k, is, told))) =
      let same = one_named h names in
      let faults : k ≡ f = cc in inl (ap command_fault_number (told ∙ ap Game faults))

  -- and so does `plain`
  plain_refuses : (before after : Option (List ℕ)) (result : Result Ended Fault)
      → AnswersBy (plain_spec limits (Some graph_text) (Some chips_text) limit) before after result
      → EndsByNumber (command_fault_number (Game f)) result
  plain_refuses before after (Ok ended) (text, (h, gave, reports), out, cut) = no_game h gave
  plain_refuses before after (Err fault) (inl (inl refuses, keeps)) =
      inputs_refused fault (refuses graph_text refl chips_text refl)
  plain_refuses before after (Err fault) (inl (inr (h, gave, memory), keeps)) = absurd (no_game h gave)
  plain_refuses before after (Err fault) (inr (text, status, (h, gave, reports), w, is, wrote)) =
      absurd (no_game h gave)

pub returns : goal.returns
returns c lists limit guesses old new f i (kept, refused) limits graph_text chips_text named before after result
    answers =
    let faulty : fault_of_game (game_at (graph_of lists) limit old.chips i) ≡ Some f = ⊎_elim (λ is. absurd (cc is.0))
    (⊎_elim (λ is. absurd is.1) (λ is. ⊎_elim (λ memory. absurd (cc memory)) (λ first. rw first.3.0 first.3.1) is.2))
    refused in
    plain_refuses c.one_answer.ensures limits graph_text chips_text limit (game_at (graph_of lists) limit old.chips i)
    named f faulty before after result answers.answer
