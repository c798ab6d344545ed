use Rattle.chip_trace.proofs.Names.{ℕ, List, Err, ◌∙◌, subst, bytes_out, WritesText}
use Rattle.chip_trace.specs.declared.fault.TraceFault.TheVariants as fault
use Rattle.chip_trace.proofs.writing.write_trace_to.Goals as goal

pub returns-clause-text : goal.returns-clause-text
returns-clause-text g c =
    let bytes = c.in-Err.ensures.bytes in
    subst (λ (text : List ℕ). WritesText (bytes_out g.W.Write.contents c.args.sink.now)
    (bytes_out g.W.Write.contents c.write_all_to.new.sink) text (Err fault.Write))
    (c.as_bytes.ensures.value ∙ c.in_ok-text.ensures) (c.in-Err.field-0.written, bytes.0, bytes.1)
