use Rattle.std.proofs.Common.{ltb-true, lt-ltb, arith}
use Rattle.std.proofs.lemmas.Bool.{false≢true}
use Rattle.chip_library.proofs.BooksLemmas.{all_possible, is_there, open_is, suits_some, some_owes}
use Rattle.chip_library.proofs.detector.suits.Goals as goal

pub returns-in-None : goal.returns-in-None
returns-in-None c = absurd (c.in-None.ensures (all_possible c.args.ins.now c.requires))

pub returns-in-Some-found : goal.returns-in-Some-found
returns-in-Some-found c =
    let there = open_is c.args.ins.now c.args.parent c.in-Some-found.field-0-0 c.in-Some-found.tally c.in-Some-found.ensures
    c.requires in (
      λ above. suits_some c.args.ins.now c.args.parent c.if-parent-eq-NEUTRAL.false
          (omega (arith, ltb-true _ _ above, c.open.ensures, there)),
      λ suits. lt-ltb _ _ (omega (
        arith,
        some_owes c.args.ins.now c.args.parent c.if-parent-eq-NEUTRAL.false suits,
        c.open.ensures,
        there,
      )),
    )

pub returns-in-None-found : goal.returns-in-None-found
returns-in-None-found c = (
  λ is. absurd (false≢true is),
  λ suits. absurd (c.in-None-found.ensures c.requires (
    is_there c.args.ins.now c.args.parent (some_owes c.args.ins.now c.args.parent c.if-parent-eq-NEUTRAL.false suits),
    omega (arith, c.ranges.parent.fits, c.if-parent-eq-NEUTRAL.false),
  )),
)
