use Rattle.chip_engine.proofs.drop_rows.Rows.write_if.Goals as goal

pub returns-then-is_time-clause-bytes : goal.returns-then-is_time-clause-bytes
returns-then-is_time-clause-bytes g c = c.write.ensures.bytes
