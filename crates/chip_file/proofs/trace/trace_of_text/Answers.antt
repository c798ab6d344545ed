use Rattle.chip_file.proofs.Names.{refl}
use Rattle.chip_file.proofs.RecordLemmas.{rows_mean, rows_keep}
use Rattle.chip_file.proofs.TraceLemmas.{runs_each}
use Rattle.chip_file.proofs.VertexRowLemmas.{by_vertex-none, by_vertex-all}
use Rattle.chip_file.proofs.trace.trace_of_text.Goals as goal

pub returns-clause-means : goal.returns-clause-means
returns-clause-means c =
    rows_mean _ _ _ _ _
    (c.visit_text.ensures (by_vertex-none _ _ _ _ (rw (← c.vertices.ensures.value) c.in_ok-traces.ensures) (λ v. refl)))
    (λ traces h. by_vertex-all _ _ _ _ h)

pub returns-clause-each : goal.returns-clause-each
returns-clause-each c =
    rows_keep _ _ _ _
    (c.visit_text.ensures (by_vertex-none _ _ _ _ (rw (← c.vertices.ensures.value) c.in_ok-traces.ensures) (λ v. refl)))
    (λ traces h. runs_each _ _ _ h)
