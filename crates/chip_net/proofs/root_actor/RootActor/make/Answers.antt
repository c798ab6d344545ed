use Rattle.chip_net.proofs.Names.{◌≡◌, ℕ, Setting, root, word_to_note}
use Rattle.chip_net.proofs.Names.{Grows, part_of_view, IsDueForRoot, the_view}
use Rattle.chip_net.proofs.RulingLemmas.{Due}
use Rattle.chip_net.proofs.RootingLemmas.{feeding_mine, feeding_due, can, still_root, replies}
use Rattle.chip_net.proofs.root_actor.RootActor.make.Goals.{After-operate-seen}
use Rattle.chip_net.proofs.root_actor.RootActor.make.Goals as goal

may : (g : _) (c : After-operate-seen g) → IsDueForRoot (the_view c.self.inside) c.args.event
may g c = rw (← c.self.view_is) at c.requires.due

due : (g : _) (c : After-operate-seen g)
    → Due c.self.inside.setting.value c.self.inside.seat.me (root c.self.inside.setting.value) c.args.event
due g c = feeding_due c.self.inside.seat.me c.self.invariant.has (may g c).0 (may g c).1

told : (g : _) (c : After-operate-seen g) → (n : ℕ) × (c.operate-seen.result ≡ word_to_note c.args.event n)
    × Grows c.self.inside.setting.value c.args.event c.self.inside.seat.me n c.operate-seen.new.seat.me
told g c = rw (← c.requires.net, ← c.self.view_is, c.requires.event) at c.operate-seen.ensures.told

pub apply-requires : goal.apply-requires
apply-requires g c =
    let d = (goal.at.apply-requires g c).After-operate-seen in
    let h : Setting = c.self.inside.setting.value in (
      h,
      part_of_view h (root h) c.self.inside.seat.me.0,
      c.self.invariant.stands,
      rw (told g d).1
          (can (due g d) (feeding_mine h c.args.event (may g d).0).1 c.self.invariant (told g d).0 (told g d).2),
    )

pub invariant_of-self : goal.invariant_of-self
invariant_of-self g c =
    let d = (goal.at.invariant_of-self g c).After-operate-seen in
    still_root (due g d) (feeding_mine c.self.inside.setting.value c.args.event (may g d).0).1 c.self.invariant
    (told g d).0 (told g d).2 ((rw (told g d).1 at c.apply.ensures) _ _ c.self.invariant.stands)

pub returns : goal.returns
returns g c =
    let d = (goal.at.returns g c).After-operate-seen in
    replies (due g d) (feeding_mine c.self.inside.setting.value c.args.event (may g d).0).1 c.self.invariant
    (told g d).0 (told g d).2 ((rw (told g d).1 at c.apply.ensures) _ _ c.self.invariant.stands) c.self.view_is
    c.operate-seen.ensures.same
