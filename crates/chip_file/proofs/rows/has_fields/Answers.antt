use Rattle.chip_file.proofs.Names.{sym, ◌∙◌}
use Rattle.chip_file.proofs.FieldLemmas.{one_field, none_more}
use Rattle.chip_file.proofs.rows.has_fields.Goals as goal

pub returns-then-ne : goal.returns-then-ne
returns-then-ne c =
    let inv = c.loop-column.invariant in
    sym (inv.same_rest ∙ one_field _ c.args.fields.now c.loop-column.column _ _ _ _ inv.as_many c.loop-column-test.true
    c.get.ensures.value c.as_bytes.ensures.value c.if-ne.ensures)

pub loop-column-preserved : goal.loop-column-preserved
loop-column-preserved c =
    let inv = c.loop-column.invariant in record {
      as_many = inv.as_many;
      same_rest = inv.same_rest ∙ one_field _ c.args.fields.now c.loop-column.column _ _ _ _ inv.as_many
          c.loop-column-test.true c.get.ensures.value c.as_bytes.ensures.value c.if-ne.ensures;
    }

pub returns : goal.returns
returns c =
    let inv = c.loop-column.invariant in
    sym (inv.same_rest ∙ none_more _ c.args.fields.now c.loop-column.column inv.as_many c.loop-column-test.false)
