use Rattle.chip_report.proofs.Names.{refl, sym, ◌∙◌, false≢true, Contains-get_or, below_more}
use Rattle.chip_report.proofs.ListLemmas.{AreApart-from_below}
use Rattle.chip_report.proofs.reportable.are_apart.Goals as goal

pub returns-then-is_in : goal.returns-then-is_in
returns-then-is_in c = (
  λ e. absurd (false≢true e),
  λ apart. absurd (apart _ (Contains-get_or c.args.over.now c.loop-vertex.vertex-index 0 c.loop-vertex-test.true)
      (c.is_in.ensures.0 c.if-is_in.true)),
)

pub loop-vertex-preserved : goal.loop-vertex-preserved
loop-vertex-preserved c =
    below_more _ _ c.loop-vertex.invariant
    (λ stands. false≢true (sym c.if-is_in.false ∙ c.is_in.ensures.1 stands))

pub returns : goal.returns
returns c = (
  λ e. AreApart-from_below c.args.over.now c.args.sealed.now c.loop-vertex.vertex-index
      c.loop-vertex-test.false c.loop-vertex.invariant,
  λ apart. refl,
)
