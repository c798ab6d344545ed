use Rattle.chip_crew.proofs.Names.{◌≡◌, ℕ, ◌+◌, ◌-◌, length, None, refl, ap, arith, rules, length-drop}
use Rattle.chip_crew.proofs.Names.{sum_by-take-drop, ActorKnown, IsAt, turns_of, all_turns, IsShareStart, IsReady}
use Rattle.chip_crew.proofs.RunLemmas.{from_push, from_drop}
use Rattle.chip_crew.proofs.DealingLemmas.{are_of, cut_next}
use Rattle.chip_crew.specs.declared.worker.Share.TheVariants as share
use Rattle.chip_crew.proofs.dealing.deal.Goals as goal

pub loop-worker-preserved : goal.loop-worker-preserved
loop-worker-preserved g c =
    let i = c.loop-worker.invariant in
    let worker = c.loop-worker.worker in
    let actors = c.loop-worker.actors.items in
    let first = c.loop-worker.first in
    let next = c.next_cut-next.result.0 in
    let rest = c.in_ok-rest.ensures in
    let cut = cut_next c.args.graph.now c.args.workers worker first next _ _ i.first_is
    (rw c.all_ends-all_ends.ensures.value refl) c.next_cut-next.ensures.next.2
    c.next_cut-next.ensures.reached c.next_cut-next.ensures.least in
    let at_crew = λ (k u : ℕ) (is : IsShareStart c.args.graph.now c.args.workers k u).
    rw (c.requires.graph, c.requires.workers.2) at is in
    let none : (all_turns c.split_off.new.self.items ≡ 0) × (all_turns c.in_ok-rest.rest.items ≡ 0) =
    (let both = sum_by-take-drop turns_of actors (next - first) in let own = ap all_turns rest.items in
    let left = ap all_turns rest.tail in (omega arith, omega arith)) in
    let end : first + (next - first) ≡ next = omega arith in
    let place : worker ≡ 0 + length c.loop-worker.all.items = omega arith in
    record {
      first_is = cut;
      ends_are = c.next_cut-next.ensures.next.2;
      few = c.next_cut-next.ensures.next.3;
      actors = rw rest.tail (rw end at (from_drop (IsAt g.B.Crew.asked.crew) first (next - first) actors i.actors));
      no_turns = none.1;
      whole = (let same = ap length rest.tail in omega (arith, length-drop {A = ActorKnown}));
      shares = from_push (IsReady g.B.Crew.asked None) 0 c.loop-worker.all.items _ (share.Dealt c.split_off.new.self)
          c.push_reserved.ensures.items i.shares (rw (← place) (record {
            made = (
              c.requires.sharing,
              are_of g.B.Crew.asked.crew worker first next actors c.split_off.new.self.items
                  (at_crew worker first i.first_is) (at_crew (worker + 1) next cut) c.next_cut-next.ensures.next.0 (omega arith) i.actors
                  rest.items,
              (c.split_off.new.self.items, none.0, refl),
            );
            uses = refl;
          }));
      count = search rules;
      room = search rules;
    }
