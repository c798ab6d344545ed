use Rattle.std.proofs.Common.{refl, rules, inr}
use Rattle.std.proofs.lemmas.Result.{err_from_is_err_and}
use Rattle.chip_recurrent.proofs.RecurrentLemmas.{not_stable, tested}
use Rattle.chip_recurrent.specs.Recurrents.{burning_sum}
use Rattle.std.proofs.Common.{slice_index}
use Rattle.chip_recurrent.proofs.recurrent.burning_test.Goals as goal

pub returns-in_err-end-clause-flag : goal.returns-in_err-end-clause-flag
returns-in_err-end-clause-flag c =
    let p = err_from_is_err_and c.from_residual.result c.from_residual.ensures.1 in
    let fault = c.in_err-end.ensures.end (burning_sum (slice_index c.args.burning.now) (slice_index c.args.chips.now))
    (λ v l ns. refl) in
    rw (p.1, p.2) (inr (c.is_stable.ensures.0 (search rules), fault))

pub returns-then-not-is_stable-clause-flag : goal.returns-then-not-is_stable-clause-flag
returns-then-not-is_stable-clause-flag c =
    not_stable c.args.graph.now (slice_index c.args.burning.now) (slice_index c.args.chips.now)
    (λ rests. let no = c.if-not-is_stable.ensures.1 rests in absurd cc)

pub agree_off_sink-requires-clause-chips_each : goal.agree_off_sink-requires-clause-chips_each
agree_off_sink-requires-clause-chips_each c =
    let end = c.in_ok-end.ensures.end (burning_sum (slice_index c.args.burning.now) (slice_index c.args.chips.now))
    (λ v l ns. refl) in
    rw (c.deref.ensures.value, c.in_ok-end.ensures.graph) end.chips_each

pub agree_off_sink-requires-clause-others_each : goal.agree_off_sink-requires-clause-others_each
agree_off_sink-requires-clause-others_each c =
    rw c.in_ok-end.ensures.graph c.requires.chips_each

pub returns-clause-flag : goal.returns-clause-flag
returns-clause-flag c =
    let end = c.in_ok-end.ensures.end (burning_sum (slice_index c.args.burning.now) (slice_index c.args.chips.now))
    (λ v l ns. refl) in
    let same = rw (c.deref.ensures.value, c.in_ok-end.ensures.graph) at c.agree_off_sink.ensures.agree in
    rw c.from.ensures (tested c.args.graph.now c.requires.graph c.requires.script.0 (slice_index c.args.burning.now)
    (slice_index c.args.chips.now) (slice_index c.in_ok-end.end.chips.items) c.requires.script.1
    (c.is_stable.ensures.0 (search rules)) end.stabilizes c.agree_off_sink.result same)
