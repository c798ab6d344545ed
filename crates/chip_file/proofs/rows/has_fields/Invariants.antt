use Rattle.chip_file.proofs.Names.{◌≡◌, map, drop, length, bytes_eq, pointwise, fields_of, has_fields}
use Rattle.chip_file.proofs.rows.has_fields.Given as goal

abbrev pub invariant-loop-column : goal.invariant-loop-column
invariant-loop-column l = record {
  as_many : length (fields_of l.row) ≡ length l.fields;
  same_rest : has_fields (map (λ field. field.now) l.fields) (fields_of l.row)
      ≡ pointwise bytes_eq (drop l.column (fields_of l.row)) (drop l.column (map (λ field. field.now) l.fields));
}
