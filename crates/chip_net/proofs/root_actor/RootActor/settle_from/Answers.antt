use Rattle.chip_net.proofs.Names.{◌≡◌, ◌-◌, refl, ◌∙◌, arith}
use Rattle.chip_net.proofs.RootingLemmas.{does_none, does_net, settles_more, holds_by}
use Rattle.chip_net.proofs.root_actor.RootActor.settle_from.Goals as goal

pub loop-vertex-init : goal.loop-vertex-init
loop-vertex-init c = record {
  from = omega arith;
  within = omega arith;
  settles = does_none c.args.self.now _
      (let none : c.args.first - c.args.first ≡ 0 = omega arith in rw none);
  holds = λ none. none;
}

pub loop-vertex-preserved : goal.loop-vertex-preserved
loop-vertex-preserved c =
    let i = c.loop-vertex.invariant in record {
      from = (let l = i.from in omega arith);
      within = (let l = c.loop-vertex-test.true in
          let n = rw (c.setting-setting.ensures.value, ← c.requires.net) at c.vertices-vertex-end.ensures.value in
          omega arith);
      settles = settles_more c.args.first c.loop-vertex.vertex i.from i.settles c.settle.ensures.1;
      holds = λ none. holds_by c.settle.ensures.1 (λ e o. refl) (i.holds none);
    }

pub settle-requires-clause-word : goal.settle-requires-clause-word
settle-requires-clause-word c =
    let net : c.loop-vertex.self.net ≡ c.args.net.now =
    does_net c.loop-vertex.invariant.settles ∙ c.requires.net in
    rw (c.setting-setting.ensures.value, ← net) at (c.root_acks-words.ensures.words c.loop-vertex.vertex)
