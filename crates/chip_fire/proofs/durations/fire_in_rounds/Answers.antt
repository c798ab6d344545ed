use Rattle.std.proofs.Common.{◌≡◌, slice_index, arith, refl}
use Rattle.chip_fire.proofs.ListedLemmas.{found_none, none_legal}
use Rattle.chip_fire.proofs.DurationLemmas.{left_fits, round_more, going_more, rounds_over}
use Rattle.chip_fire.proofs.durations.fire_in_rounds.Goals as goal

pub rounds-init : goal.rounds-init
rounds-init c =
    let begun = c.requires.begun in
    rw (c.graph-graph.ensures.value, c.limit-limit.ensures.value, c.requires.before) (record {
      in_range = begun.in_range;
      on_the_way = begun.on_the_way;
      found = found_none _ _ _;
      listed = c.requires.listed;
      legal = c.requires.legal;
      position = λ u. refl;
      going = λ k l stable. absurd (omega arith);
      few = omega arith;
    })

pub overflow_add-rounds : goal.overflow_add-rounds
overflow_add-rounds c =
    let few = c.rounds.invariant.few in
    let begun = rw (← c.graph-graph.ensures.value, ← c.limit-limit.ensures.value) at c.requires.begun.in_range in
    let fits = left_fits _ _ _ _ begun in omega arith

pub returns-in_default-clause-begun : goal.returns-in_default-clause-begun
returns-in_default-clause-begun c = rw (← c.graph-graph.ensures.value, ← c.limit-limit.ensures.value) (record {
  in_range = c.round-made.ensures.in_range;
  on_the_way = c.round-made.ensures.stays _ c.rounds.invariant.on_the_way;
})

pub rounds-preserved : goal.rounds-preserved
rounds-preserved c =
    let so_far = c.rounds.invariant in
    let (fires, found, fits, legal) = c.in-Some.ensures.done in
    record {
      in_range = c.round-made.ensures.in_range;
      on_the_way = c.round-made.ensures.stays _ so_far.on_the_way;
      found = found;
      listed = fits;
      legal = legal;
      position = round_more c.graph-graph.result.now (slice_index c.args.chips.now) c.rounds.chips c.rounds.rounds so_far.position
          c.round-made.new.chips fires.position;
      going = going_more c.graph-graph.result.now (slice_index c.args.chips.now) c.rounds.chips c.rounds.rounds so_far.position
          so_far.going c.rounds.queue c.rounds.listed (omega arith) so_far.listed so_far.legal;
      few = (let a = fires.each_fires in omega arith);
    }

pub returns : goal.returns
returns c =
    let so_far = c.rounds.invariant in
    let none : c.rounds.listed ≡ 0 = omega arith in
    let stable = none_legal _ _ (rw none at so_far.legal) in
    rw (← c.graph-graph.ensures.value, ← c.limit-limit.ensures.value) (record {
      begun = record { in_range = so_far.in_range; on_the_way = so_far.on_the_way };
      found = so_far.found;
      rounds = rounds_over c.graph-graph.result.now (slice_index c.args.chips.now) c.rounds.chips c.rounds.rounds so_far.position
          so_far.going stable;
      stable = stable;
    })
