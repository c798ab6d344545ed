use Rattle.std.proofs.Common.{◌≡◌, ℕ, replicate, true≢false, refl, ap, sym, ◌∙◌, arith}
use Rattle.chip_graph.specs.Multigraph.{Multigraph}
use Rattle.chip_graph.specs.ChipGame.{ChipGame}
use Rattle.chip_sequence.specs.Counted.{game_from}
use Rattle.chip_fire.proofs.PlayLemmas.{begun_none}
use Rattle.chip_fire.proofs.pile.Pile.put.Goals as goal

pub returns-clause-begun : goal.returns-clause-begun
returns-clause-begun c =
    let old = c.requires.begun in
    let g : ChipGame = game_from c.args.self.game.graph c.args.start.items c.args.limit in
    let game : c.game_on.result ≡ g =
    c.game_on.ensures ∙ ap (λ (G : Multigraph). game_from G c.args.start.items c.args.limit) c.into_graph.ensures.value in
    let each = old.begun.in_range.fired_each in
    let fired_len : c.args.self.fired.len ≡ g.graph.vertices = omega (arith, c.args.self.fired.ok.0) in
    let fired : c.fill.new.self.items ≡ replicate g.graph.vertices 0 =
    c.fill.ensures.items (λ y is. is) ∙ ap (λ (n : ℕ). replicate n 0) fired_len in
    rw game (record {
      game = c.requires.game;
      begun = begun_none g c.requires.game _ _ (c.copy_from_slice.ensures.items ∙ c.deref.ensures.value) fired;
      room = record {
        before_each = old.room.before_each;
        room = record {
          before = refl;
          support_each = old.room.room.support_each;
          list_room = old.room.room.list_room;
          row = old.room.room.row;
        };
        current = λ is. absurd (true≢false (sym is));
      };
      course = tt;
    })
