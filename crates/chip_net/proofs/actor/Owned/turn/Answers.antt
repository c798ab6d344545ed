use Rattle.chip_net.proofs.Names.{◌≡◌, ◌<◌, ap, subst, arith, StandsFor, Setting, Part}
use Rattle.chip_net.proofs.Names.{ActorKnown, MakesTurnBy, known, part_known}
use Rattle.chip_net.specs.contracts.actor.Owned.{the_view}
use Rattle.chip_net.proofs.LayingLemmas.{some_words}
use Rattle.chip_net.proofs.AnsweringLemmas.{own_is, alone_has_part, worked, waiting, idle}
use Rattle.chip_net.proofs.actor.Owned.turn.Goals.{then-work-gt0, else-work-gt0+then-passive}
use Rattle.chip_net.proofs.actor.Owned.turn.Goals.{else-work-gt0+else-passive}
use Rattle.chip_net.proofs.actor.Owned.turn.Goals as goal

pub returns-clause-turn : goal.returns-clause-turn
returns-clause-turn c =
    let i = c.self.inside in
    let work = c.turn_over-work.result in
    let a = c.turn_over-work.new.state in
    let seat = c.turn_over-work.new.words.seat.now in
    let trace = c.turn_over-work.new.words.trace.now in
    let own = c.args.self.now in
    let after : ActorKnown = the_view record { state = a; setting = i.setting; seat = seat; knew = i.knew; trace = trace } in
    let here : c.setting.result.now ≡ own.net.setting = rw (c.setting.ensures.value, c.requires.net) in
    let mine : c.setting.result.now ≡ i.setting.value = rw (← c.self.view_is) at here in
    let some : 0 < c.args.net.now.table.words = some_words _ c.words.ensures.count c.words.ensures.setting in
    let part = alone_has_part a.vertex seat.table_id seat.me i.knew.value.me c.turn_over-work.ensures.actor.0.alone in
    let then : known seat.table_id c.setting.result.now a.vertex trace.room seat.me.0 ≡ after =
    rw (part.0, part.1, mine) in
    let begun : known i.seat.table_id c.setting.result.now i.state.vertex i.trace.room i.seat.me.0 ≡ own =
    rw mine (own_is i.seat.table_id i.setting.value i.state.vertex i.trace.room i.seat.me i.knew.value.me own
    c.self.view_is c.args.net.now c.requires.net some) in
    let made : MakesTurnBy own after work = rw (begun, then) at c.turn_over-work.ensures.turn in
    let at : a.vertex ≡ own.vertex = ap (λ (k : ActorKnown). k.vertex) made.record_is in
    let stands : StandsFor own.net.setting (part_known after) a = subst (λ (z : Setting × Part). StandsFor z.0 z.1 a)
    (λ j. (here j, ap part_known then j)) c.turn_over-work.ensures.actor.1 in
    elim c.if-work-gt0.branch [
      | then-work-gt0 w ↦ rw w.result-is (worked own after work made w.if-work-gt0.true)
      | else-work-gt0+then-passive w ↦ rw w.result-is
          (idle own after work made (let l = w.if-work-gt0.false in omega arith) a at stands
          (rw w.if-passive.true at (w.passive.ensures.part own.net.setting (part_known after) stands)))
      | else-work-gt0+else-passive w ↦ rw w.result-is
          (waiting own after work made (let l = w.if-work-gt0.false in omega arith) a at stands
          (rw w.if-passive.false at (w.passive.ensures.part own.net.setting (part_known after) stands)))
    ]
