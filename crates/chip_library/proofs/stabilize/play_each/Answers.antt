use Rattle.std.proofs.Common.{◌≡◌, ◌∙◌, ℕ, ◌*◌, ◌+◌, length, drop, refl, ap, subst, arith}
use Rattle.std.proofs.Common.{length-drop, zero-mul, inr}
use Rattle.std.proofs.lemmas.Result.{err_from_is_err_and}
use Rattle.std.proofs.lemmas.List.{drop-drop}
use Rattle.chip_graph.specs.Multigraph.{Multigraph}
use Rattle.chip_graph.specs.ChipGame.{ChipGame, IsGame}
use Rattle.chip_sequence.specs.Play.{IsPlayed}
use Rattle.chip_recurrent.proofs.RowLemmas.{room_for_row}
use Rattle.chip_library.specs.Batch.{game_at, row}
use Rattle.chip_library.proofs.BatchLemmas.{played_none, played_more}
use Rattle.chip_library.proofs.stabilize.play_each.Goals as goal

pub loop-number-init : goal.loop-number-init
loop-number-init g c =
    let (chips, fired, stopped) = c.in_ok-ends.ensures in
    (refl, rw (zero-mul c.args.graph.vertices) refl, rw (chips, fired, stopped) (played_none _ _ _))

pub split_at-requires : goal.split_at-requires
split_at-requires g c =
    let (graph, rest, played) = c.loop-number.invariant in
    let long = length-drop (c.loop-number.number * c.args.graph.vertices) c.args.chips.now in
    let room = room_for_row c.args.graph.vertices c.loop-number.number c.args.games c.loop-number-test.true in
    let left = ap length rest in
    let all = c.requires.chips_each in
    let is = c.vertices-vertices.ensures.value in omega arith

pub returns-in_err-game : goal.returns-in_err-game
returns-in_err-game g c =
    let (same_graph, rest, played) = c.loop-number.invariant in
    let is : c.vertices-vertices.result ≡ c.args.graph.vertices = c.vertices-vertices.ensures.value in
    let start : c.split_at.result.0.now ≡ row c.args.graph.vertices c.args.chips.now c.loop-number.number =
    c.split_at.ensures.front ∙ rw (rest, is) refl in
    let p = err_from_is_err_and c.from_residual-in_err-game.result c.from_residual-in_err-game.ensures.1 in
    rw (p.1, p.2) (inr (c.loop-number.number, c.loop-number-test.true, (λ j l. (played.each j l).is_game), rw (same_graph, start) at c.in_err-game.ensures))

pub loop-number-preserved : goal.loop-number-preserved
loop-number-preserved g c =
    let (same_graph, rest, played) = c.loop-number.invariant in
    let i : ℕ = c.loop-number.number in
    let G : Multigraph = c.args.graph in
    let is : c.vertices-vertices.result ≡ G.vertices = c.vertices-vertices.ensures.value in
    let start : c.split_at.result.0.now ≡ row G.vertices c.args.chips.now i =
    c.split_at.ensures.front ∙ rw (rest, is) refl in
    let game : c.in_ok-game.game ≡ game_at G c.args.limit c.args.chips.now i =
    c.in_ok-game.ensures.0 ∙ rw (same_graph, start) refl in
    let next : c.split_at.result.1.now ≡ drop ((i + 1) * G.vertices) c.args.chips.now =
    c.split_at.ensures.back ∙ rw (rest, is, drop-drop) (ap (λ (k : ℕ). drop k c.args.chips.now) (omega arith)) in (
      c.into_graph-graph.ensures.value ∙ ap (λ (g : ChipGame). g.graph) game,
      next,
      rw (c.in_ok-push.ensures.chips, c.in_ok-push.ensures.fired, c.in_ok-push.ensures.stopped)
          (played_more G c.args.limit c.args.chips.now i _ played (subst IsGame game c.in_ok-game.ensures.1)
          c.in_ok-outcome.outcome (subst (λ (g : ChipGame). IsPlayed g c.in_ok-outcome.outcome) game c.in_ok-outcome.ensures.played)),
    )

pub returns : goal.returns
returns g c =
    let all : c.loop-number.number ≡ c.args.games = omega arith in
    rw all at c.loop-number.invariant.2
