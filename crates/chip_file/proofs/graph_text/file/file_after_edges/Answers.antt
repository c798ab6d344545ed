use Rattle.chip_file.proofs.JsonNames.{◌≡◌, None, arith, codes, tokens, array, no_members, object, put}
use Rattle.chip_file.proofs.Standing.{or_refused}
use Rattle.chip_file.proofs.Texts.{text_refused}
use Rattle.chip_file.proofs.graph_text.file.file_after_edges.Goals as goal

pub returns-in_err-parts : goal.returns-in_err-parts
returns-in_err-parts c = λ text utf8 has.
    let d = array has.rows in
    let all : c.in_ok-reader.reader ≡ tokens c.args.rest.now = c.in_ok-reader.ensures.ok in
    let stopped = or_refused (c.in_err-parts.ensures (put (codes "edges") d no_members) (c.with_edges.ensures c.args.most d has.kept))
    (λ none. text_refused text (has.read None (rw all at none))) in
    grind (arith, stopped)

pub returns : goal.returns
returns c = λ text utf8 has.
    let d = array has.rows in
    let all : c.in_ok-reader.reader ≡ tokens c.args.rest.now = c.in_ok-reader.ensures.ok in
    let read = c.in_ok-parts.ensures (put (codes "edges") d no_members) (c.with_edges.ensures c.args.most d has.kept) in
    c.file_at_end.ensures c.args.most text (object read.0) utf8 (has.read _ (rw all at read.1))
    (c.into_file.ensures c.args.most read.0 read.2)
