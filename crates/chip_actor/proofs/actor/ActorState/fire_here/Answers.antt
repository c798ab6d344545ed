use Rattle.chip_actor.proofs.Names.{◌∙◌, refl, sym}
use Rattle.chip_actor.proofs.MediumLemmas.{DueBy, may_serve, can_do, moves_one}
use Rattle.chip_actor.proofs.TurnOverLemmas.{fire_by, no_fire}
use Rattle.chip_actor.proofs.actor.ActorState.fire_here.Goals.{After-batch-k}
use Rattle.chip_actor.proofs.actor.ActorState.fire_here.Given.{Over}
use Rattle.chip_part.specs.declared.act.Act.TheVariants as Do
use Rattle.chip_part.specs.declared.cursor.Cursor.TheVariants as At
use Rattle.chip_actor.proofs.actor.ActorState.fire_here.Goals as goal

pub returns-clause-moves : goal.returns-clause-moves
returns-clause-moves g c = no_fire (λ h s stands. sym c.if-may_fire.false ∙ c.may_fire.ensures h s stands)

pub batch-k-requires : goal.batch-k-requires
batch-k-requires g c = let r = c.requires in (r.0, r.2, r.4, sym (c.may_fire.ensures r.0 r.2 r.4) ∙ c.if-may_fire.true)

-- the firing is due
due : (g : Over) (c : After-batch-k g) → DueBy c.args.self.now At.Fire (Do.Fire c.batch-k.result) (At.Put 0)
due g c = fire_by (λ h s stands. sym c.if-may_fire.true ∙ c.may_fire.ensures h s stands) c.batch-k.ensures

pub fire-seen-requires : goal.fire-seen-requires
fire-seen-requires g c = may_serve c.requires (due g (goal.at.fire-seen-requires g c).After-batch-k)

pub fire-requires : goal.fire-requires
fire-requires g c = can_do c.requires (due g (goal.at.fire-requires g c).After-batch-k) c.fire-seen.ensures

pub returns-then-may_fire-clause-moves : goal.returns-then-may_fire-clause-moves
returns-then-may_fire-clause-moves g c =
    moves_one (due g (goal.at.returns-then-may_fire-clause-moves g c).After-batch-k) c.fire-seen.ensures c.fire.ensures
    refl
