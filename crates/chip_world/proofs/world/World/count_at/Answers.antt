use Rattle.chip_world.proofs.Names.{edge_sound, no_words}
use Rattle.chip_world.proofs.FlightLemmas.{count_in_cell, count_in_hand}
use Rattle.chip_world.proofs.world.World.count_at.Goals as goal

pub returns-then-count-eq0 : goal.returns-then-count-eq0
returns-then-count-eq0 c = λ g log old later before.
    let stands = rw (← c.self.view_is) at old in
    let inside = rw old.setting at c.requires in
    let cell = rw (c.cells.ensures.number, c.ring.ensures.value, stands.setting) at c.load-count.ensures in
    rw (c.held_count.ensures g log old) (count_in_hand g.ring _ _ _ _ _
    (edge_sound g stands.is_setting.game stands.is_setting.some_ring log stands.legal c.args.edge)
    (stands.words c.args.edge inside no_words).shows c.args.place later before (rw cell at c.if-count-eq0.true))

pub returns-else-count-eq0 : goal.returns-else-count-eq0
returns-else-count-eq0 c = λ g log old later before.
    let stands = rw (← c.self.view_is) at old in
    let inside = rw old.setting at c.requires in
    let cell = rw (c.cells.ensures.number, c.ring.ensures.value, stands.setting) at c.load-count.ensures in
    rw cell (count_in_cell g.ring _ _ _ _ _
    (edge_sound g stands.is_setting.game stands.is_setting.some_ring log stands.legal c.args.edge)
    (stands.words c.args.edge inside no_words).shows c.args.place later before
    (λ zero. c.if-count-eq0.false (rw cell zero)))
