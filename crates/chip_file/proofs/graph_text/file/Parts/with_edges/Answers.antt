use Rattle.chip_file.proofs.JsonNames.{None, Some, inl, refl, false, codes, no_members}
use Rattle.chip_file.proofs.Standing.{take_edges}
use Rattle.chip_file.proofs.graph_text.file.Parts.with_edges.Goals as goal

pub returns : goal.returns
returns c = λ most d are. take_edges {most = most} (codes "edges") d
    (record { version = None; vertices = None; sink = None; edges = None; others = false }) (Some c.args.edges) refl are
    no_members (inl (refl, None, None, None, None, refl, refl, refl, refl, tt))
