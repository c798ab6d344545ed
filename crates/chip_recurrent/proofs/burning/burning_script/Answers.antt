use Rattle.std.proofs.Common.{slice_index, arith}
use Rattle.std.proofs.lemmas.Result.{err_from_is_err_and}
use Rattle.chip_graph.specs.Multigraph.{Multigraph}
use Rattle.chip_recurrent.specs.Burning.{burning_start}
use Rattle.chip_recurrent.specs.Stabilizations.{IsStabilized}
use Rattle.chip_recurrent.proofs.BurningLemmas.{least_script}
use Rattle.chip_recurrent.proofs.StabilizationLemmas.{few_fired, few_left, sink_degree}
use Rattle.chip_recurrent.proofs.burning.burning_script.Goals as goal

pub returns-in_err-end-clause-burning : goal.returns-in_err-end-clause-burning
returns-in_err-end-clause-burning c =
    let p = err_from_is_err_and c.from_residual-in_err-end.result c.from_residual-in_err-end.ensures.1 in
    let fault = c.in_err-end.ensures.end (burning_start c.args.graph.now)
    (λ v l ns. rw c.deref.ensures.value (omega (arith, c.in_ok-start.ensures.start v l))) in
    rw (p.1, p.2) fault

pub one_more-requires-clause-few : goal.one_more-requires-clause-few
one_more-requires-clause-few c =
    let end = c.in_ok-end.ensures.end (burning_start c.args.graph.now)
    (λ v l ns. rw c.deref.ensures.value (omega (arith, c.in_ok-start.ensures.start v l))) in
    λ v. rw c.deref-2.ensures.value (omega (arith, few_fired c.args.graph.now end.is_graph end v))

pub one_more-requires-clause-each : goal.one_more-requires-clause-each
one_more-requires-clause-each c =
    let end = c.in_ok-end.ensures.end (burning_start c.args.graph.now)
    (λ v l ns. rw c.deref.ensures.value (omega (arith, c.in_ok-start.ensures.start v l))) in
    rw (c.deref-2.ensures.value, c.in_ok-end.ensures.graph) end.fired_each

pub burning_chips-requires-clause-starts_each : goal.burning_chips-requires-clause-starts_each
burning_chips-requires-clause-starts_each c =
    rw (c.deref-3.ensures.value, c.in_ok-end.ensures.graph) c.in_ok-start.ensures.each

pub burning_chips-requires-clause-starts : goal.burning_chips-requires-clause-starts
burning_chips-requires-clause-starts c =
    rw (c.deref-3.ensures.value, c.in_ok-end.ensures.graph) c.in_ok-start.ensures.start

pub burning_chips-requires-clause-each : goal.burning_chips-requires-clause-each
burning_chips-requires-clause-each c =
    let end = c.in_ok-end.ensures.end (burning_start c.args.graph.now)
    (λ v l ns. rw c.deref.ensures.value (omega (arith, c.in_ok-start.ensures.start v l))) in
    rw (c.deref-4.ensures.value, c.in_ok-end.ensures.graph) end.chips_each

pub burning_chips-requires-clause-few : goal.burning_chips-requires-clause-few
burning_chips-requires-clause-few c =
    let end = c.in_ok-end.ensures.end (burning_start c.args.graph.now)
    (λ v l ns. rw c.deref.ensures.value (omega (arith, c.in_ok-start.ensures.start v l))) in
    rw (c.deref-4.ensures.value, c.in_ok-end.ensures.graph)
    (λ v l. omega (arith, few_left c.args.graph.now end.is_graph end v l))

pub returns-clause-burning : goal.returns-clause-burning
returns-clause-burning c =
    let G : Multigraph = c.args.graph.now in
    let end = c.in_ok-end.ensures.end (burning_start G)
    (λ v l ns. rw c.deref.ensures.value (omega (arith, c.in_ok-start.ensures.start v l))) in
    let is : IsStabilized G (burning_start G) c.in_ok-end.end.chips.items c.in_ok-end.end.fired.items = end in
    let script = rw (c.deref-2.ensures.value, c.in_ok-end.ensures.graph) at c.in_ok-script.ensures.script in
    let chips = rw (c.deref-4.ensures.value, c.in_ok-end.ensures.graph) at c.in_ok-chips.ensures.chips in record {
      is_graph = is.is_graph;
      script_each = rw c.in_ok-end.ensures.graph at c.in_ok-script.ensures.each;
      chips_each = rw c.in_ok-end.ensures.graph at c.in_ok-chips.ensures.each;
      least = least_script G is.is_graph is.stabilizes.end (λ v l ns. omega (arith, script v l ns, is.odometer v))
          (λ v l ns. chips v l);
      script_at_sink = rw c.in_ok-end.ensures.graph at c.in_ok-script.ensures.sink;
      none_on_sink = omega (arith, chips G.sink is.is_graph.sink_is_vertex, sink_degree G is.is_graph);
      within = (slice_index c.in_ok-end.end.chips.items, is.stabilizes);
    }
