use Rattle.chip_crew.proofs.Names.{◌≡◌, ℕ, ◌+◌, ◌≤◌, List, length, Option, None, ap, arith, [], ◌∷◌, ◌++◌}
use Rattle.chip_crew.proofs.Names.{All, length-append, rules, append-nil, option_to_list, length-map, All-cons, All-nil}
use Rattle.chip_crew.proofs.Names.{sum_by-append, Vec, vec_capacity, view, ActorKnown, Asked, IsOurs, turns_of}
use Rattle.chip_crew.proofs.Names.{all_turns, IsGatheringFor, got_turns, gave_turns, both_ledgers, HasJust, kept_turns}
use Rattle.chip_crew.proofs.Names.{HaveRoom, Ledger}
use Rattle.chip_crew.proofs.GatheringLemmas.{gathers_more}
use Rattle.chip_crew.proofs.PlacesLemmas.{merges, have_room}
use Rattle.chip_crew.proofs.gathering.join_pass.Goals as goal

-- what one more worker had is gathered
one_joined : (asked : Asked) (old theirs new : Ledger) (row now : Vec ActorKnown) (kept : Option ActorKnown)
    (more : List ActorKnown) → new ≡ both_ledgers old theirs → HasJust theirs kept
    → gave_turns theirs + kept_turns kept ≤ got_turns theirs + asked.plan.turns
    → IsGatheringFor asked old.workers old row → option_to_list kept ≡ more → now.items ≡ row.items ++ more
    → All (IsOurs asked.crew) more → asked.crew.net.setting.game.graph.vertices ≤ vec_capacity now
    → IsGatheringFor asked (old.workers + 1) new now
one_joined asked old theirs new row now kept more both has own gathers same is ours room =
    gathers_more asked old new row now more old.workers (old.workers + 1) gathers is ours room
    (rw both (omega (arith, has.0))) (rw (both, has.1, same) (cc))
    (rw both (let all = ap all_turns same in omega (arith, sum_by-append turns_of)))

pub absorb-requires-clause-rule : goal.absorb-requires-clause-rule
absorb-requires-clause-rule g c = merges g.B.Crew.asked.crew _ _ _ _

pub learn_as-requires-clause-rule : goal.learn_as-requires-clause-rule
learn_as-requires-clause-rule g c = have_room g.B.Crew.asked.crew _ _

pub push_reserved-requires : goal.push_reserved-requires
push_reserved-requires g c =
    let i = c.requires.gathering in
    let learned : (items : List ActorKnown) × HaveRoom g.B.Crew.asked.crew (view c.absorb.new.pass) items = search rules in
    let both : view c.absorb.new.pass ≡ both_ledgers (view c.args.pass.now) (view c.args.theirs) = search rules in
    let own = ap length i.has in
    let same = length-map c.args.row.now.items (λ (a : ActorKnown). a.vertex) in
    let theirs = ap length (rw c.in-Some.is at c.requires.has.1) in let fits = rw both at learned.1 in
    omega (arith, length-append {A = ℕ})

pub returns-in-Some-clause-gathering : goal.returns-in-Some-clause-gathering
returns-in-Some-clause-gathering g c =
    let ours : IsOurs g.B.Crew.asked.crew c.in-Some.actor = search rules in
    one_joined g.B.Crew.asked (view c.args.pass.now) (view c.args.theirs) (view c.learn_as.new.pass) c.args.row.now
    c.push_reserved.new.self c.args.kept (c.in-Some.actor ∷ []) (search rules) c.requires.has c.requires.turns
    c.requires.gathering (ap option_to_list c.in-Some.is) c.push_reserved.ensures.items
    (All-cons (IsOurs g.B.Crew.asked.crew) c.in-Some.actor [] ours (All-nil (IsOurs g.B.Crew.asked.crew)))
    (search rules)

pub returns-in_default-clause-gathering : goal.returns-in_default-clause-gathering
returns-in_default-clause-gathering g c =
    let none : c.args.kept ≡ None = search rules in
    one_joined g.B.Crew.asked (view c.args.pass.now) (view c.args.theirs) (view c.learn_as.new.pass) c.args.row.now
    c.args.row.now c.args.kept [] (search rules) c.requires.has c.requires.turns c.requires.gathering
    (ap option_to_list none) (rw append-nil (cc)) (All-nil (IsOurs g.B.Crew.asked.crew))
    c.requires.gathering.room
