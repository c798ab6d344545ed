use Rattle.chip_trace.proofs.Names.{◌≡◌, ℕ, List, map, refl, sym, ◌∙◌, subst, TraceRow, length-map, IsStuck, runner_at}
use Rattle.chip_trace.proofs.KeptLemmas.{kept_start}
use Rattle.chip_trace.proofs.StuckLemmas.{whole, stuck}
use Rattle.chip_trace.proofs.replaying.replay_complete.Goals as goal

pub settle-requires-clause-kept : goal.settle-requires-clause-kept
settle-requires-clause-kept c =
    kept_start c.args.game.now (map (λ t. t.items) c.args.traces.now) c.in_ok-progress.progress
    c.in_ok-progress.ensures.runners c.in_ok-progress.ensures.taken c.in_ok-progress.ensures.firings

pub returns-in-Some : goal.returns-in-Some
returns-in-Some c =
    let traces : List (List TraceRow) = map (λ t. t.items) c.args.traces.now in
    let place : c.used_rows.result ≡ (runner_at c.settle.new.progress c.in-Some.vertex).used = c.used_rows.ensures in
    subst (λ (row : ℕ). IsStuck c.args.game.now traces c.in-Some.vertex row) (sym place)
    (stuck c.args.game.now traces c.settle.new.progress c.in_ok-settle.ensures.kept
    (length-map c.args.traces.now (λ t. t.items)
    ∙ c.requires) c.in_ok-settle.ensures.settled c.in-Some.vertex c.in-Some.ensures)

pub returns-in_ok-left-in-None : goal.returns-in_ok-left-in-None
returns-in_ok-left-in-None c =
    whole c.args.game.now (map (λ t. t.items) c.args.traces.now) c.settle.new.progress c.in_ok-settle.ensures.kept
    (length-map c.args.traces.now (λ t. t.items) ∙ c.requires) c.in-None.ensures _ refl c.in_ok-left-in-None.ensures
