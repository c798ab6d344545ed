-- Serves Tokens.antt.
-- A turn over the net's words: its start, and its end.
use Rattle.chip_net.proofs.Names.{◌≡◌, ℕ, List, ◌++◌, reverse, refl, sym, ap, ◌∙◌, subst, reverse-append}
use Rattle.chip_net.proofs.Names.{reverse-reverse, TableId, Setting, Actor, StandsFor, Meets, MakesTurnOver, IsTurnMade}
use Rattle.chip_net.proofs.Names.{turn, turns_bounded, Step, Part, TraceState, did_in, part_of_view, Mine, TurnSetup}
use Rattle.chip_net.proofs.Names.{IsOfNet, Holds, IsSeated, IsActorState, known, MakesTurnBy}
use Rattle.chip_part.specs.declared.cursor.Cursor.TheVariants as At

module _ {setup now : TurnSetup} {key : Setting} {table : TableId} {me : Mine} {trace : TraceState} (a : Actor)
    (began : setup ≡ now) (of_net : IsOfNet now.net.setting key now.net.table) (vertex : now.vertex ≡ a.vertex) (table_is : table ≡ now.net.table)
    (actor : IsActorState now.net.setting a me trace) where
  abbrev g : Setting
  g = now.net.setting

  abbrev did : List Step
  did = did_in a.vertex me.0

  abbrev part : Part
  part = part_of_view g a.vertex me.0

  same : now ≡ setup
  same = sym began

  begins : Holds setup now key table me trace g a.vertex (reverse did) part
  begins = record {
    same = same;
    of_net = of_net;
    table_is = table_is;
    setting_is = refl;
    vertex_is = sym vertex;
    did_is = rw (vertex, reverse-reverse did);
    part_is = rw vertex;
    seated = rw vertex actor.0;
  }

  pub may_turn : Meets (Holds setup now key table me trace) a (At.Take 0)
  may_turn = (g, reverse did, part, begins, actor.1, tt)

  module _ {now' : TurnSetup} {key' : Setting} {table' : TableId} {me' : Mine} {trace' : TraceState} {b : Actor}
      {work : ℕ} (makes : MakesTurnOver (Holds setup now key table me trace) a
      (Holds setup now' key' table' me' trace') b work) where
    abbrev more : List Step
    more = (makes g (reverse did) part begins actor.1).0

    abbrev then : Part
    then = (makes g (reverse did) part begins actor.1).1

    abbrev over : IsTurnMade (Holds setup now' key' table' me' trace') g a.vertex (reverse did) part b work more then
    over = (makes g (reverse did) part begins actor.1).2

    -- the setup is unchanged
    pub still : now' ≡ now
    still = over.held.same ∙ sym same

    at : now'.vertex ≡ b.vertex
    at = sym over.held.vertex_is ∙ sym over.vertex

    did_is : did_in b.vertex me'.0 ≡ did ++ more
    did_is = ap (λ (v : ℕ). did_in v me'.0) (sym at) ∙ over.held.did_is
        ∙ reverse-append (reverse more) (reverse did)
        ∙ (λ j. reverse-reverse did j ++ reverse-reverse more j)

    part_is : then ≡ part_of_view g b.vertex me'.0
    part_is = over.held.part_is ∙ (λ j. part_of_view (still j).net.setting (at j) me'.0)

    pub turned : MakesTurnBy (known table g a.vertex now.room me.0) (known table' g b.vertex now'.room me'.0) work
    turned =
        let is_turn : turn g a.vertex part more (part_of_view g b.vertex me'.0) =
        subst (turn g a.vertex part more) part_is over.is_turn in record {
          steps = more;
          record_is = λ j. record {
            net = record {
              table = (over.held.table_is ∙ ap (λ (n : TurnSetup). n.net.table) still ∙ sym table_is) j;
              setting = g;
            };
            vertex = over.vertex j;
            room = (still j).room;
            did = did_is j;
          };
          is_turn = is_turn;
          bounded = turns_bounded g a.vertex actor.1.knows.vertex part actor.1.kept more (part_of_view g b.vertex me'.0, is_turn);
          work_is = over.counted;
        }

    pub still_actor : IsActorState g b me' trace'
    still_actor = (
      subst (λ (z : Setting × ℕ). IsSeated z.0 z.1 me' trace') (λ j. ((still j).net.setting, at j)) over.held.seated,
      subst (λ (s : Part). StandsFor g s b) part_is over.stands,
    )
