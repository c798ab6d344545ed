use Rattle.std.proofs.Common.{◌≡◌, ◌++◌, List, sym, ap, ◌∙◌, append_assoc}
use Rattle.std.proofs.lemmas.List.{take-append-drop}
use Rattle.chip_core.specs.Core.{Event}
use Rattle.chip_engine.proofs.ScheduleLemmas.{one_stretch_more}
use Rattle.chip_engine.proofs.simulate.stretch_by_stretch.Goals as goal

pub loop-left-preserved : goal.loop-left-preserved
loop-left-preserved c =
    let so_far = c.loop-left.invariant in
    let stretch : List Event = c.split_at.result.0.now in
    let rest : List Event = c.split_at.result.1.now in
    let parts : c.loop-left.left.now ≡ stretch ++ rest =
    rw (c.split_at.ensures.front, c.split_at.ensures.back) (sym (take-append-drop _ c.loop-left.left.now)) in (
      so_far.0 ++ stretch,
      so_far.1
          ∙ ap (λ (l : List Event). so_far.0 ++ l) parts
          ∙ sym (append_assoc so_far.0 stretch rest),
      one_stretch_more c.args.world.now.setting so_far.0 stretch c.loop-left.world c.run.new.self c.in_ok-record.record _ _
          so_far.2 c.in_ok-record.ensures (rw c.deref.ensures.value at c.in_ok-push_replies.ensures),
    )
