use Rattle.chip_world.proofs.WordLemmas.{claims_told}
use Rattle.chip_world.proofs.world.World.sent.Goals as goal

pub returns : goal.returns
returns c = λ g log old.
    let stands = rw (← c.self.view_is) at old in
    rw (c.from_word.ensures.claims, c.word.ensures)
    (claims_told g stands.is_setting.game stands.is_setting.some_ring log stands.legal c.self.inside.shared.words
    stands.words_each stands.words c.args.edge (rw old.setting at c.requires))
