use Rattle.chip_net.proofs.Names.{◌≡◌, ◌<◌, refl, root, root_edge, Settle, of_acks, index_of}
use Rattle.chip_net.proofs.Names.{part_of_view, Grows, the_view}
use Rattle.chip_net.proofs.RulingLemmas.{Due, words_at, event_asked, event_told}
use Rattle.chip_net.proofs.RootingLemmas.{settle_own, settle_due, can, still_root, makes_event}
use Rattle.chip_net.proofs.root_actor.RootActor.settle.Goals.{After-words, After-load-seen}
use Rattle.chip_net.proofs.root_actor.RootActor.settle.Goals as goal

-- the root is of this net
net_is : (c : After-words) → (the_view c.self.inside).net ≡ c.args.net.now
net_is c = rw (← c.self.view_is) at c.requires.net

there : (c : After-words) → c.args.vertex < c.self.inside.setting.value.game.graph.vertices
there c = rw (← c.self.view_is) at c.requires.vertex

due : (c : After-words) → Due c.self.inside.setting.value c.self.inside.seat.me (root c.self.inside.setting.value)
    (Settle (root_edge c.self.inside.setting.value c.args.vertex))
due c = settle_due c.self.inside.setting.value c.args.vertex (there c) c.self.inside.seat.me c.self.invariant

-- the word is that of its acknowledgements
word_is : (c : After-words)
    → c.args.word ≡ index_of c.self.inside.setting.value (of_acks (root_edge c.self.inside.setting.value c.args.vertex))
word_is c = rw (← c.self.view_is) at c.requires.word

pub load-seen-requires : goal.load-seen-requires
load-seen-requires c =
    let d = (goal.at.load-seen-requires c).After-words in
    event_asked (words_at (net_is d) c.words.ensures) (due d) _ (word_is d) Settle refl _ refl _

told : (c : After-load-seen) → Grows c.self.inside.setting.value (Settle (root_edge c.self.inside.setting.value c.args.vertex))
    c.self.inside.seat.me c.load-seen.result c.load-seen.new.seat.me
told c =
    let d = (goal.at.After-load-seen c).After-words in
    event_told (words_at (net_is d) c.words.ensures) (due d) _ (word_is d) Settle refl _ _ c.load-seen.ensures.2

pub settle-requires : goal.settle-requires
settle-requires c =
    let d = (goal.at.settle-requires c).After-words in
    let g = c.self.inside.setting.value in (
      g,
      part_of_view g (root g) c.self.inside.seat.me.0,
      c.self.invariant.stands,
      can (due d)
          (settle_own g c.args.vertex (there d)) c.self.invariant _ (told (goal.at.settle-requires c).After-load-seen),
    )

pub invariant_of-self : goal.invariant_of-self
invariant_of-self c =
    let d = (goal.at.invariant_of-self c).After-words in
    still_root (due d) (settle_own c.self.inside.setting.value c.args.vertex (there d)) c.self.invariant _
    (told (goal.at.invariant_of-self c).After-load-seen)
    (c.settle.ensures _ _ c.self.invariant.stands)

pub returns : goal.returns
returns c =
    let d = (goal.at.returns c).After-words in (
      c.load-seen.result,
      rw (← c.self.view_is) (makes_event (due d) (settle_own c.self.inside.setting.value c.args.vertex (there d))
          c.self.invariant _ (told (goal.at.returns c).After-load-seen) refl c.load-seen.ensures.0),
    )
