use Rattle.std.proofs.Common.{◌≡◌, sym, subst, ℕ, true, false}
use Rattle.chip_actor.specs.Actor.{Actor, SomePart}
use Rattle.chip_part.specs.Setting.{Setting}
use Rattle.chip_part.specs.Part.{opening_part}
use Rattle.chip_core_tests.specs.Asking.{may_play, setting_on}
use Rattle.chip_core_tests.proofs.actor.play_new.Goals as goal

pub play-counted-requires : goal.play-counted-requires
play-counted-requires g c =
    let here : Setting = setting_on c.args.ends.now c.args.start.now false in
    let xs = c.args.questions.now in
    let turn = c.args.turn.now in
    subst (λ (a : Actor). SomePart a (λ g s. may_play g a.vertex s xs turn ≡ true)) (sym c.deref_mut.ensures.value) (
      here,
      opening_part here,
      c.new_actor-actor.ensures.opened,
      subst (λ (v : ℕ). may_play here v (opening_part here) xs turn ≡ true) (sym c.new_actor-actor.ensures.vertex)
          c.requires.plays,
    )
