use Rattle.std.proofs.Common.{◌≡◌, ◌∙◌, ap, map, refl, arith}
use Rattle.std.proofs.lemmas.List.{take_all}
use Rattle.std.proofs.lemmas.Result.{err_from_is_err_and}
use Rattle.chip_run.specs.Recording.{is_any_cut, rows_kept}
use Rattle.chip_run.proofs.RunLemmas.{fails_by}
use Rattle.chip_run.proofs.recording.write_traces.Goals as goal

pub returns-clause-records : goal.returns-clause-records
returns-clause-records g c =
    let i = c.loop-actor.invariant in
    let whole = take_all c.loop-actor.actor-index c.args.actors.now (omega (arith, c.loop-actor-test.false)) in record {
      text = rw (c.deref.ensures.value, i.rows, whole) at c.in_ok-write_trace.ensures;
      cut_is = i.cut ∙ ap is_any_cut whole;
    }

pub returns-in_err-write_trace-clause-fault : goal.returns-in_err-write_trace-clause-fault
returns-in_err-write_trace-clause-fault g c =
    let p = err_from_is_err_and c.from_residual-in_err-write_trace.result
    c.from_residual-in_err-write_trace.ensures.1 in
    let whole = take_all c.loop-actor.actor-index c.args.actors.now (omega (arith, c.loop-actor-test.false)) in
    let rows : map (λ t. t.now) c.deref.result.now ≡ map rows_kept c.args.actors.now =
    rw (c.deref.ensures.value, c.loop-actor.invariant.rows, whole) refl in
    rw (p.1, p.2) (fails_by c.args.actors.now _ _ _ rows c.in_err-write_trace.field-0.0 c.in_err-write_trace.ensures)
