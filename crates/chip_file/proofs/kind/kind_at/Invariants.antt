use Rattle.chip_file.proofs.Names.{◌≡◌, drop, kind_named, named_kinds}
use Rattle.chip_file.proofs.kind.kind_at.Given as goal

abbrev pub invariant-loop-kind_name : goal.invariant-loop-kind_name
invariant-loop-kind_name g l =
    kind_named (named_kinds l.kinds) l.name ≡ kind_named (named_kinds (drop l.kind_name-index l.kinds)) l.name
