-- Serves Answers.antt.
-- What callers ask of the end of a game, from what the libraries return.
use Rattle.std.proofs.Common.{◌≡◌, ℕ, ◌+◌, ◌<◌, ◌==◌, if◌then◌else◌, List, [], ◌∷◌, slice_index, refl, sym, ap, ◌∙◌}
use Rattle.std.proofs.Common.{subst, arith}
use Rattle.std.proofs.Common.{true, false, Option, Some, None, Result, Ok, Err, IfOk, IfSome}
use Rattle.std.proofs.lemmas.Bool.Decides.{nat_tests}
use Rattle.std.specs.declared.alloc.AllocError.{AllocError}
use Rattle.std.specs.Result.{result_ok}
use Rattle.chip_graph.specs.Multigraph.{Multigraph}
use Rattle.chip_graph.specs.ChipGame.{ChipGame}
use Rattle.chip_sequence.specs.Firing.{legal_vertices}
use Rattle.chip_sequence.specs.Play.{IsPlayed}
use Rattle.chip_sequence.specs.Resume.{GoesOn, game_from}
use Rattle.chip_sequence.specs.Stages.{LeadsTo, IsPlayFrom, fired_in_all}
use Rattle.chip_sequence.specs.declared.outcome.Outcome.{Outcome}
use Rattle.chip_sequence.specs.declared.resumed.Resumed.{Resumed}
use Rattle.chip_sequence.proofs.StageLemmas.{leads_both, played_is_stage}
use Rattle.chip_fire.specs.Player.{PlaysOut}
use Rattle.chip_fire.specs.Avalanches.{dropped, IsAvalanche, TellsAvalanche}
use Rattle.chip_fire.specs.declared.avalanche.Avalanche.{Avalanche}
use Rattle.chip_fire.specs.declared.pile.Pile.{Pile}
use Rattle.chip_report.specs.Reportable.{content}
use Rattle.chip_trace.specs.Interleaving.{Placed, rows_of, fires, row_firings, with_firing}
use Rattle.chip_link.specs.declared.trace.TraceRow.{TraceRow}
use Rattle.chip_link.specs.declared.trace.TraceRow.TheVariants.{Take, Fire}
use Rattle.chip_command.proofs.OneReportLemmas.{same_numbers}
use Rattle.chip_library.specs.Batch.{Games, ArePlayed, row, game_at}
use Rattle.chip_report.specs.ReportText.{is_closed}
use Rattle.chip_engine.proofs.StageLemmas.{none_legal}
use Rattle.chip_sequence.specs.Firing.{IsStable}
use Rattle.chip_part.specs.Setting.{Setting, setting_with}
use Rattle.chip_core.specs.Positions.{firings as firings_in}
use Rattle.chip_core.specs.Outcomes.{ComesTo}
use Rattle.chip_net.specs.Tokens.{NetId}
use Rattle.chip_crew.specs.Finished.{IsFinished}
use Rattle.chip_crew.specs.declared.plan.Plan.{Plan}
use Rattle.chip_crew.specs.declared.plan.Sharing.{Sharing}
use Rattle.chip_crew.specs.declared.play.Finished.{Finished}
use Rattle.chip_crew.proofs.FinishingLemmas.{net_is}
use Rattle.examples.specs.Answers.{IsEveryEnd, IsSomeEnd, SetsOffAvalanche, final_chips, firings_by}

-- the outcome of a game is every end
pub every_end : (g : ChipGame) (o : Outcome) → IsPlayed g o → IsEveryEnd g o.fired.items o.chips.items
every_end g o played = record { some = played.ends; counted = played.counted; left = played.position }

-- and so if there was memory to play it
pub end_if_some : (g : ChipGame) (r : Result Outcome AllocError) → IfOk r (PlaysOut g)
    → IfSome (result_ok r) (λ o. IsEveryEnd g o.fired.items o.chips.items)
end_if_some g (Ok o) plays = every_end g o plays.played
end_if_some g (Err e) plays = tt

-- a game has one outcome
pub one_end : (g : ChipGame) (o p : Outcome) → IsPlayed g o → IsPlayed g p → content o ≡ content p
one_end g o p one other =
    let (vs, whole) = one.ends in
    let fired = same_numbers o.fired.items p.fired.items (one.fired_each ∙ sym other.fired_each)
    (λ v below. one.counted vs whole v ∙ sym (other.counted vs whole v)) in
    let chips = same_numbers o.chips.items p.chips.items (one.chips_each ∙ sym other.chips_each)
    (λ v below. one.position vs whole v ∙ sym (other.position vs whole v)) in
    let over = one.over ∙ ap (λ (xs : List ℕ). legal_vertices g.graph (slice_index xs)) chips ∙ sym other.over in
    let sealed = one.sealed ∙ sym other.sealed in
    rw (fired, chips, over, sealed) refl

-- what goes on begins at the same start
pub goes_on : (G : Multigraph) (earlier later : Resumed) (limit : ℕ) → GoesOn G earlier limit later → (x : ℕ → ℕ)
    → IsPlayFrom G x earlier → IsPlayFrom G x later
goes_on G earlier later limit on x before =
    let both = leads_both G x (fired_in_all earlier) (slice_index earlier.outcome.chips.items)
    (slice_index later.outcome.fired.items) (slice_index later.outcome.chips.items) before
    (played_is_stage (game_from G earlier limit) later.outcome on.played) in
    subst (λ (f : ℕ → ℕ). LeadsTo G x f (slice_index later.outcome.chips.items))
    (λ i v. ap (λ (n : ℕ). n + slice_index later.outcome.fired.items v) (sym (on.prior v)) i) both

-- a drop on a pile of the game sets off the reported avalanche
pub sets_off : (g : ChipGame) (o : Outcome) → IsPlayed g o → (p p' : Pile) → p.game ≡ g
    → p.chips.items ≡ o.chips.items → (v count : ℕ) (told : Option Avalanche)
    → TellsAvalanche p.game.graph (dropped (slice_index p.chips.items) v count) p' told
    → IfSome told (SetsOffAvalanche g v count)
sets_off g o played p p' game chips v count None tells = tt
sets_off g o played p p' game chips v count (Some a) tells = λ us whole vs ok ended.
    let here : slice_index p.chips.items ≡ final_chips g us =
    (λ i u. (ap (λ (xs : List ℕ). slice_index xs u) chips ∙ played.position us whole u) i) in
    let there = subst (λ (x : ℕ → ℕ). IsAvalanche p.game.graph (dropped x v count) a (slice_index p'.chips.items)) here
    tells.1 in
    let x : ℕ → ℕ = dropped (final_chips g us) v count in
    let is = subst (λ (k : ChipGame). IsAvalanche k.graph x a (slice_index p'.chips.items)) game there in
    is.tells vs ok ended

-- of each vertex an interleaving has the firings of its own rows, in order
pub fired_by_rows : (v : ℕ) (xs : List Placed) → firings_by v (row_firings xs) ≡ fires (rows_of xs v)
fired_by_rows v [] = refl
fired_by_rows v (x ∷ xs) = one_more x.vertex x.row (fired_by_rows v xs)
  where
    one_more : (u : ℕ) (row : TraceRow) → firings_by v (row_firings xs) ≡ fires (rows_of xs v)
        → firings_by v (with_firing u row (row_firings xs)) ≡ fires (if u == v then row ∷ rows_of xs v else rows_of xs v)
    one_more u (Take edge count) rest = grind (arith, nat_tests)
    one_more u (Fire k) rest = grind (arith, nat_tests)

-- the games of a batch have these ends
pub each_end : (G : Multigraph) (limit : ℕ) (chips : List ℕ) (n : ℕ) (ends : Games) → ArePlayed G limit chips n ends
    → (i : ℕ) → i < n → IsEveryEnd (game_at G limit chips i) (row G.vertices ends.fired i) (row G.vertices ends.chips i)
each_end G limit chips n ends played i below =
    let (o, is, left, fired, stopped) = (played.each i below).outcome in rw (fired, left) (every_end _ o is)

-- no vertex of a pile is legal if the play of its game was not stopped
pub stands : (g : ChipGame) (o : Outcome) → IsPlayed g o → is_closed o ≡ true → (p : Pile) → p.game ≡ g
    → p.chips.items ≡ o.chips.items → IsStable p.game.graph (slice_index p.chips.items)
stands g o played closed p game chips = rw (game, chips) (none_legal g o played closed)

-- threads reach some end, whatever was sealed
pub some_end : (shared : Sharing) (game : ChipGame) (plan : Plan) (f : Finished) → IsFinished shared game None plan f
    → IsSomeEnd game f.outcome.fired.items f.outcome.chips.items
some_end shared game plan f done =
    let well = done.finished.ends.ends in
    let finishes = well.finishes in
    let g : Setting = setting_with game plan.ring false in
    let vs : List ℕ = firings_in finishes.read_out.log in
    let setting : well.root.net.setting ≡ g =
    ap (λ (n : NetId). n.setting) (net_is None plan done.crew f done.finished) ∙ done.opened.setting in
    let is : finishes.game ≡ game =
    finishes.unfed (ap (λ (s : Setting). s.fed) setting) ∙ ap (λ (s : Setting). s.game) setting in
    let comes = subst (λ (s : Setting). ComesTo s (slice_index finishes.game.start) vs f.outcome) setting
    finishes.comes in
    let from_start = subst (λ (k : ChipGame). ComesTo g (slice_index k.start) vs f.outcome) is comes in
    record {
      vs = vs;
      sequence = from_start.sequence;
      within = from_start.within;
      counted = from_start.counted;
      left = from_start.position;
    }
