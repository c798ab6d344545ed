use Rattle.std.proofs.Common.{◌≡◌, ℕ, ◌<◌, eqb, not, length, min, refl, arith, take}
use Rattle.std.proofs.lemmas.Bool.Decides.{nat_tests}
use Rattle.std.proofs.lemmas.List.{drop_all, length-take-le}
use Rattle.std.proofs.lemmas.List.Elements.{All-head}
use Rattle.chip_fire.proofs.DropLemmas.{dropped_out, support_step, tallied_all, none_between, few_between}
use Rattle.chip_fire.proofs.MeasureLemmas.{tallied_none, tallied_row, tallied_step, next_of, rest_stays, byte_fits, next_supported}
use Rattle.chip_fire.proofs.avalanche.tally.Goals as goal

pub loop-place-init : goal.loop-place-init
loop-place-init c = record {
  front = omega arith;
  support = c.requires.support;
  tallied = tallied_none c.args.before.now c.args.fired.now;
  size = omega arith;
  extent = omega arith;
}

pub returns : goal.returns
returns c =
    let so_far = c.loop-place.invariant in
    let each : length c.loop-place.before ≡ length c.args.fired.now = omega arith in
    let past = length-take-le c.args.found c.loop-place.support (omega arith) in
    let alike = tallied_all _ _ _ each refl
    (rw (drop_all c.loop-place.place (take c.args.found c.loop-place.support) (omega arith)) at so_far.support) in
    let size = none_between (λ k. k) refl (length c.args.fired.now) c.args.fired.now in
    let extent = none_between (λ k. min k 1) refl (length c.args.fired.now) c.args.fired.now in
    let few = few_between (length c.args.fired.now) c.args.before.now c.args.fired.now c.requires.few_vertices
    c.requires.low_counts in
    let all = rw alike at so_far in record {
      size = omega arith;
      extent = omega arith;
      fits = omega arith;
      after = alike;
      row = tallied_row _ _ _ _ all.tallied;
    }

pub loop-place-preserved : goal.loop-place-preserved
loop-place-preserved c =
    let so_far = c.loop-place.invariant in
    let each : length c.loop-place.before ≡ length c.args.fired.now = omega arith in
    let inside : c.loop-place.place < c.args.found = c.loop-place-test.true in
    let support = rw (next_of c.loop-place.support c.args.found c.loop-place.place inside (omega arith)) at so_far.support in
    let is_vertex = All-head (λ (u : ℕ). u < length c.args.fired.now) _ _ support.vertices in
    let a = dropped_out _ _ c.args.fired.now each (λ k. k) refl _ is_vertex in
    let b = dropped_out _ _ c.args.fired.now each (λ k. min k 1) refl _ is_vertex in
    let rest = support_step _ _ _ each _ _ is_vertex support in
    record {
      front = (let d = byte_fits (not (eqb c.saturating_sub-more.result 0)) in let e = c.from-extent.ensures in let f = so_far.front in omega arith);
      support = rw (rest_stays c.loop-place.support c.args.found c.loop-place.place c.loop-place.extent _ so_far.front inside) rest;
      tallied = rw c.from-extent.ensures (tallied_step _ _ c.args.fired.now _ (omega arith) c.loop-place.extent _ c.loop-place.support
          c.loop-place.times (let f = so_far.front in omega arith) (let f = so_far.front in omega arith) c.saturating_sub-more.ensures
          so_far.tallied (not (eqb c.saturating_sub-more.result 0)) refl);
      size = omega arith;
      extent = grind (arith, nat_tests);
    }

pub offset_bounds-fired-vertex : goal.offset_bounds-fired-vertex
offset_bounds-fired-vertex c =
    let a = next_supported _ _ _ _ _ _ c.loop-place.invariant.support c.loop-place-test.true (omega arith) in omega arith

pub offset_bounds-fired-vertex-in-loop-place : goal.offset_bounds-fired-vertex-in-loop-place
offset_bounds-fired-vertex-in-loop-place c =
    let a = next_supported _ _ _ _ _ _ c.loop-place.invariant.support c.loop-place-test.true (omega arith) in omega arith

pub bounds-fired-vertex : goal.bounds-fired-vertex
bounds-fired-vertex c =
    let a = next_supported _ _ _ _ _ _ c.loop-place.invariant.support c.loop-place-test.true (omega arith) in omega arith

pub bounds-fired-vertex-in-loop-place : goal.bounds-fired-vertex-in-loop-place
bounds-fired-vertex-in-loop-place c =
    let a = next_supported _ _ _ _ _ _ c.loop-place.invariant.support c.loop-place-test.true (omega arith) in omega arith

pub offset_bounds-before-vertex : goal.offset_bounds-before-vertex
offset_bounds-before-vertex c =
    let a = next_supported _ _ _ _ _ _ c.loop-place.invariant.support c.loop-place-test.true (omega arith) in omega arith

pub offset_bounds-before-vertex-in-loop-place : goal.offset_bounds-before-vertex-in-loop-place
offset_bounds-before-vertex-in-loop-place c =
    let a = next_supported _ _ _ _ _ _ c.loop-place.invariant.support c.loop-place-test.true (omega arith) in omega arith

pub bounds-before-vertex : goal.bounds-before-vertex
bounds-before-vertex c =
    let a = next_supported _ _ _ _ _ _ c.loop-place.invariant.support c.loop-place-test.true (omega arith) in omega arith

pub bounds-before-vertex-in-loop-place : goal.bounds-before-vertex-in-loop-place
bounds-before-vertex-in-loop-place c =
    let a = next_supported _ _ _ _ _ _ c.loop-place.invariant.support c.loop-place-test.true (omega arith) in omega arith
