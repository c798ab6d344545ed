use Rattle.chip_world.proofs.Names.{◌≡◌, ℕ, slice_index, sym, ◌∙◌, subst, with_items_is}
use Rattle.chip_world.proofs.Names.{Setting, IsBelowZero, game_from, no_fault, Log}
use Rattle.chip_world.proofs.Names.{part_in, root, played_game, given_is, given_start, given_within, never_negative}
use Rattle.chip_world.proofs.Names.{StandsForLog}
use Rattle.chip_world.proofs.world.World.chips_after.Goals.{After-deref_mut}
use Rattle.chip_world.proofs.world.World.chips_after.Goals as goal

-- what was given is the start of the game played
start_is : (c : After-deref_mut) → (g : Setting) (log : Log) → StandsForLog g log c.args.self.now
    → c.given-given.result.now ≡ (played_game g log).start
start_is c g log old =
    let stands = rw (← c.self.view_is) at old in
    given_start g log c.given-given.result.now (c.given-given.ensures g (part_in g log (root g)) stands.root_stands)

pub after_from-requires-clause-few_chips : goal.after_from-requires-clause-few_chips
after_from-requires-clause-few_chips c =
    let d = (goal.at.after_from-requires-clause-few_chips c).After-deref_mut in
    let some = c.setting.ensures.some_log in
    rw (start_is d some.0 some.1 some.2)
    (given_within some.0 some.2.is_setting.game some.2.is_setting.some_ring some.1 some.2.legal)

-- the game of the graph and of what was given is the one played
game_is : (c : After-deref_mut) → (g : Setting) (log : Log) → StandsForLog g log c.args.self.now
    → game_from c.graph-graph.result.now c.given-given.result.now g.game.limit ≡ played_game g log
game_is c g log old =
    rw (c.graph-graph.ensures.value, c.game.ensures.value, c.setting.ensures.value, old.setting, start_is c g log old)

pub unreachable-requires : goal.unreachable-requires
unreachable-requires c =
    let d = (goal.at.unreachable-requires c).After-deref_mut in
    let some = c.setting.ensures.some_log in
    let g : Setting = some.0 in let log : Log = some.1 in
    let is = some.2.is_setting in
    no_fault (played_game g log) c.args.fired.now c.in-Err.field-0
    (rw (game_is d g log some.2) at (c.in-Err.ensures.cases g.game.limit))
    (subst (λ (x : ℕ → ℕ). (v : ℕ) → IsBelowZero g.game.graph x (slice_index c.args.fired.now) v → ⊥)
    (sym (given_is g is.game is.some_ring log some.2.legal))
    (never_negative g is.game is.some_ring log some.2.legal c.args.fired.now (c.requires g log some.2)))

pub returns-clause-chips : goal.returns-clause-chips
returns-clause-chips c = λ g log at.
    let d = (goal.at.returns-clause-chips c).After-deref_mut in
    rw (with_items_is c.in_ok-chips.chips c.after_from.new.into (c.after_from.auto.into ∙ c.deref_mut.ensures.len))
    (rw (game_is d g log at) at (c.in-Ok.ensures.cases g.game.limit))
