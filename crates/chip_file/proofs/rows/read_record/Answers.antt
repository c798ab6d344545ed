use Rattle.chip_file.proofs.RowLemmas.{takes}
use Rattle.chip_file.proofs.rows.read_record.Goals as goal

pub returns : goal.returns
returns c =
    let reads = c.in-Ok.ensures.reads c.requires.trim c.requires.ready in
    takes _ _ c.in-Ok.found _ c.requires reads (c.in-Ok.ensures.ready c.requires.trim) c.in-Ok.ensures.flexible
