use Rattle.std.proofs.Common.{◌∙◌, ℕ, ap, option_map, inl, inr, subst}
use Rattle.std.proofs.lemmas.Result.{err_from_is_err_and}
use Rattle.chip_graph.specs.Multigraph.{Multigraph}
use Rattle.chip_command.proofs.InputLemmas.{Keeps-same}
use Rattle.chip_run.specs.Feeding.{RefusesFed}
use Rattle.chip_run.proofs.RunLemmas.{for_text, for_each_text, keeps_both, means_fed, delivered_run}
use Rattle.chip_run.proofs.RunLemmas.{plays_some, delivered_some, run_reports}
use Rattle.chip_run.proofs.running.run_engine_with.Goals as goal

pub returns-in_err-game-clause-known : goal.returns-in_err-game-clause-known
returns-in_err-game-clause-known g c = λ graph_text graph_is chips_text chips_is. for_each_text
    (option_map (λ reader. g.F.Read.remaining reader.now) c.args.feed) _ (λ feed_text.
    let p = err_from_is_err_and c.from_residual.result c.from_residual.ensures.1 in
    rw (p.1, p.2) (inl (inl (c.in_err-game.ensures graph_text graph_is chips_text chips_is), keeps_both _)))

pub returns-in_err-feeds-clause-known : goal.returns-in_err-feeds-clause-known
returns-in_err-feeds-clause-known g c = λ graph_text graph_is chips_text chips_is. for_text _ _ _ (λ feed_text refuses.
    let p = err_from_is_err_and c.from_residual-in_err-feeds.result c.from_residual-in_err-feeds.ensures.1 in
    let vertices = c.vertices.ensures.value ∙ ap (λ (G : Multigraph). G.vertices) c.graph.ensures.value in
    let why = subst (λ (n : ℕ). RefusesFed c.args.options.limits feed_text n c.in_err-feeds.field-0.0) vertices
    refuses in
    let means = c.in_ok-game.ensures.means graph_text graph_is chips_text chips_is in
    rw (p.1, p.2) (inl (inr (c.in_ok-game.game, means, why), keeps_both _))) c.in_err-feeds.ensures

pub returns-in_err-answer-clause-known : goal.returns-in_err-answer-clause-known
returns-in_err-answer-clause-known g c = λ graph_text graph_is chips_text chips_is. for_text
    (option_map (λ reader. g.F.Read.remaining reader.now) c.args.feed) _ _ (λ feed_text fed.
    let p = err_from_is_err_and c.from_residual-in_err-answer.result c.from_residual-in_err-answer.ensures.1 in
    let v = c.vertices.ensures.value ∙ ap (λ (G : Multigraph). G.vertices) c.graph.ensures.value in
    let game = c.in_ok-game.ensures.means graph_text graph_is chips_text chips_is in
    let why = c.in_err-answer.ensures.fault in
    rw (p.1, p.2) (inr (_, _, means_fed _ _ _ _ _ _ _ _ v game fed, inl (why, keeps_both _)))) c.in_ok-feeds.ensures

pub returns-in_err-cut-clause-known : goal.returns-in_err-cut-clause-known
returns-in_err-cut-clause-known g c = λ graph_text graph_is chips_text chips_is. for_text
    (option_map (λ reader. g.F.Read.remaining reader.now) c.args.feed) _ _ (λ feed_text fed.
    let p = err_from_is_err_and c.from_residual-in_err-cut.result c.from_residual-in_err-cut.ensures.1 in
    let v = c.vertices.ensures.value ∙ ap (λ (G : Multigraph). G.vertices) c.graph.ensures.value in
    let game = c.in_ok-game.ensures.means graph_text graph_is chips_text chips_is in
    let plays = c.in_ok-answer.ensures.played in
    let why = rw c.deref.ensures.value at c.in_err-cut.ensures in
    rw (p.1, p.2) (inr (_, _, means_fed _ _ _ _ _ _ _ _ v game fed, inr (inl (_, _, _, plays, why, Keeps-same _)))))
    c.in_ok-feeds.ensures

pub returns-clause-known : goal.returns-clause-known
returns-clause-known g c = λ graph_text graph_is chips_text chips_is. for_text _ _ _ (λ feed_text fed.
    let v = c.vertices.ensures.value ∙ ap (λ (G : Multigraph). G.vertices) c.graph.ensures.value in
    let game = c.in_ok-game.ensures.means graph_text graph_is chips_text chips_is in
    let plays = c.in_ok-answer.ensures.played in
    let records = rw c.deref.ensures.value at c.in_ok-cut.ensures in
    let went = rw (c.deref-2.ensures.value, c.number.ensures) at c.conclude.ensures in
    let run = delivered_run _ _ _ _ _ _ _ _ _ _ _ _ plays records c.conclude.result went in
    inr (_, _, means_fed _ _ _ _ _ _ _ _ v game fed, run)) c.in_ok-feeds.ensures

-- and the report in each case
pub returns-in_err-game-clause-report : goal.returns-in_err-game-clause-report
returns-in_err-game-clause-report g c = run_reports _ _ _ _ _ _ _ _ _ _ _ _ (returns-in_err-game-clause-known g c)

pub returns-in_err-feeds-clause-report : goal.returns-in_err-feeds-clause-report
returns-in_err-feeds-clause-report g c = run_reports _ _ _ _ _ _ _ _ _ _ _ _ (returns-in_err-feeds-clause-known g c)

pub returns-in_err-answer-clause-report : goal.returns-in_err-answer-clause-report
returns-in_err-answer-clause-report g c = run_reports _ _ _ _ _ _ _ _ _ _ _ _ (returns-in_err-answer-clause-known g c)

pub returns-in_err-cut-clause-report : goal.returns-in_err-cut-clause-report
returns-in_err-cut-clause-report g c = run_reports _ _ _ _ _ _ _ _ _ _ _ _ (returns-in_err-cut-clause-known g c)

pub returns-clause-report : goal.returns-clause-report
returns-clause-report g c = run_reports _ _ _ _ _ _ _ _ _ _ _ _ (returns-clause-known g c)

pub returns-in_err-game-clause-any : goal.returns-in_err-game-clause-any
returns-in_err-game-clause-any g c =
    let p = err_from_is_err_and c.from_residual.result c.from_residual.ensures.1 in rw p.1 (inl (Keeps-same _))

pub returns-in_err-feeds-clause-any : goal.returns-in_err-feeds-clause-any
returns-in_err-feeds-clause-any g c =
    let p = err_from_is_err_and c.from_residual-in_err-feeds.result c.from_residual-in_err-feeds.ensures.1 in
    rw p.1 (inl (Keeps-same _))

pub returns-in_err-answer-clause-any : goal.returns-in_err-answer-clause-any
returns-in_err-answer-clause-any g c =
    let p = err_from_is_err_and c.from_residual-in_err-answer.result c.from_residual-in_err-answer.ensures.1 in
    rw p.1 (inl (Keeps-same _))

pub returns-in_err-cut-clause-any : goal.returns-in_err-cut-clause-any
returns-in_err-cut-clause-any g c =
    let p = err_from_is_err_and c.from_residual-in_err-cut.result c.from_residual-in_err-cut.ensures.1 in
    rw p.1 (inl (Keeps-same _))

pub returns-clause-any : goal.returns-clause-any
returns-clause-any g c = delivered_some _ _ _ _ _
    (plays_some _ _ _ _ _ _ _ c.in_ok-answer.ensures.played) c.conclude.result
    (rw (c.deref-2.ensures.value, c.number.ensures) at c.conclude.ensures)

pub play-requires-clause-game : goal.play-requires-clause-game
play-requires-clause-game g c = λ κs lives. c.in_ok-game.ensures.game
