use Rattle.chip_sequence.proofs.LegalLemmas.{legal_vertices_law}
use Rattle.chip_sequence.proofs.laws.legal_vertices.Goals as goal

pub returns : goal.returns
returns c = legal_vertices_law
