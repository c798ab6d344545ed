use Rattle.chip_file.proofs.KeptLemmas.{refused}
use Rattle.chip_file.proofs.ReadLemmas.{graph_of_text_alone, read_failed, text_read}
use Rattle.chip_file.proofs.graph.graph_of_source.Goals as goal

pub returns-in_err-text-clause-reads : goal.returns-in_err-text-clause-reads
returns-in_err-text-clause-reads g c =
    let read = c.in_err-text.ensures in
    read_failed _ _ _ _ _ _ _ _ c.from_residual.ensures.1 read.whole read.few_reads read.told

pub returns-in_err-file-clause-reads : goal.returns-in_err-file-clause-reads
returns-in_err-file-clause-reads g c =
    let read = c.in_ok-text.ensures in
    text_read _ _ _ _ _ _ c.in_ok-text.text _ read.whole read.few_reads read.told
    (refused _ _ _ _ c.from_residual-in_err-file.ensures.1 (rw c.deref.ensures.value at c.in_err-file.ensures))
    (graph_of_text_alone c.args.limits c.in_ok-text.text.items)

pub returns-clause-reads : goal.returns-clause-reads
returns-clause-reads g c =
    let read = c.in_ok-text.ensures in
    text_read _ _ _ _ _ _ c.in_ok-text.text _ read.whole read.few_reads read.told
    (c.graph_of_file.ensures c.in_ok-text.text.items (rw c.deref.ensures.value at c.in_ok-file.ensures))
    (graph_of_text_alone c.args.limits c.in_ok-text.text.items)
