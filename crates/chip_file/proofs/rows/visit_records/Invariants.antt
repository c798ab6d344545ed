use Rattle.chip_file.specs.Standing.{IsOpen, records_left}
use Rattle.chip_file.proofs.RecordLemmas.{HasRead}
use Rattle.chip_file.proofs.rows.visit_records.Given as goal

abbrev pub invariant-loop-index : goal.invariant-loop-index
invariant-loop-index g l = record {
  ready : IsOpen l.records;
  read : HasRead (g.V.RowVisitor.row_fault l.context) (g.V.RowVisitor.HasVisited l.context) l.fn.visitor
      (records_left l.initial.records) (records_left l.records) l.index l.visitor;
}
