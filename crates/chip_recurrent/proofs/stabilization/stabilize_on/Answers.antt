use Rattle.std.proofs.Common.{◌≡◌, ◌<◌, ◌∙◌, length, refl, ap, subst, arith, rules}
use Rattle.std.proofs.lemmas.Grind.{common_steps}
use Rattle.std.proofs.lemmas.Result.{err_from_is_err_and}
use Rattle.chip_graph.specs.Multigraph.{Multigraph, IsGraph}
use Rattle.chip_recurrent.proofs.StabilizationLemmas.{start_for, few_off_sink, stabilized, halted, fault_of_play}
use Rattle.chip_recurrent.proofs.stabilization.stabilize_on.Goals as goal

pub returns-in_err-outcome-clause-end : goal.returns-in_err-outcome-clause-end
returns-in_err-outcome-clause-end c = λ x same.
    let p = err_from_is_err_and c.from_residual-in_err-outcome.result c.from_residual-in_err-outcome.ensures.1 in
    let start = start_for c.args.graph.now _ x c.in_ok-start.start.items c.in_ok-start.ensures same in
    let fault = rw c.in_err-outcome.was at c.replace_with.ensures.1 in
    rw (p.1, p.2) (fault_of_play c.args.graph.now x c.in_ok-start.start.items start c.args.row _ fault)

pub returns-then-not-is_empty-clause-end : goal.returns-then-not-is_empty-clause-end
returns-then-not-is_empty-clause-end c = λ x same.
    let start = start_for c.args.graph.now _ x c.in_ok-start.start.items c.in_ok-start.ensures same in
    let (few, played) = rw c.in_ok-outcome.was at c.replace_with.ensures.1 in
    let some : 0 < length c.in_ok-outcome.outcome.over.items = first_of (search rules, grind (arith, common_steps)) in (
      refl,
      few_off_sink c.args.graph.now x c.in_ok-start.start.items start few,
      halted c.args.graph.now x c.in_ok-start.start.items start few c.in_ok-outcome.outcome played some,
    )

pub returns-clause-end : goal.returns-clause-end
returns-clause-end c = λ x same.
    let graph : c.replace_with.new.dest ≡ c.args.graph.now = c.replace_with.ensures.0 in
    let sink : c.sink.result ≡ c.args.graph.now.sink = c.sink.ensures.value ∙ ap (λ (G : Multigraph). G.sink) graph in
    let start = start_for c.args.graph.now _ x c.in_ok-start.start.items c.in_ok-start.ensures same in
    let (few, played) = rw c.in_ok-outcome.was at c.replace_with.ensures.1 in
    let none : length c.in_ok-outcome.outcome.over.items ≡ 0 = first_of (search rules, grind (arith, common_steps)) in
    rw sink (stabilized c.args.graph.now x c.in_ok-start.start.items start few c.in_ok-outcome.outcome played
    (subst IsGraph graph c.sink.ensures.graph) none)
