use Rattle.chip_crew.proofs.Names.{◌≡◌, ap, rules, view, IsOurs, IsAt, got_turns, gave_turns}
use Rattle.chip_crew.proofs.Names.{first_ledger}
use Rattle.chip_crew.proofs.PlacesLemmas.{begins, numbers_are}
use Rattle.chip_crew.proofs.RunLemmas.{from_all}
use Rattle.chip_crew.proofs.play.play_shared.Goals as goal

pub ruled-requires-clause-rule : goal.ruled-requires-clause-rule
ruled-requires-clause-rule g c = begins g.B.Crew.asked.crew c.requires.opened.some_workers

pub fill-requires-clause-actors : goal.fill-requires-clause-actors
fill-requires-clause-actors g c = from_all (IsAt g.B.Crew.asked.crew) (IsOurs g.B.Crew.asked.crew) (λ n a here. here.0)
    0 c.args.actors.items c.requires.opened.each

pub fill-requires-clause-has : goal.fill-requires-clause-has
fill-requires-clause-has g c =
    let first : view c.in_ok-queue-in-Queue.pass ≡ first_ledger g.B.Crew.asked.crew = search rules in
    rw first (rw (← c.requires.opened.count)
    (numbers_are g.B.Crew.asked.crew 0 c.args.actors.items c.requires.opened.each))

pub fill-requires-clause-turns : goal.fill-requires-clause-turns
fill-requires-clause-turns g c =
    let first : view c.in_ok-queue-in-Queue.pass ≡ first_ledger g.B.Crew.asked.crew = search rules in
    (ap got_turns first, ap gave_turns first, c.requires.opened.no_turns)
