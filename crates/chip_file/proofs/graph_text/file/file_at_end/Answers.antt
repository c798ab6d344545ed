use Rattle.chip_file.proofs.JsonNames.{◌≡◌, [], inr, refl, rules}
use Rattle.chip_file.proofs.Standing.{shape_of}
use Rattle.chip_file.proofs.Texts.{text_read}
use Rattle.chip_file.proofs.graph_text.file.file_at_end.Goals as goal

pub returns-in-Some : goal.returns-in-Some
returns-in-Some c = λ most text d utf8 read is.
    let over : c.args.reader.now ≡ [] = search rules in
    (d, text_read text d utf8 (rw over at read), rw c.in-Some.is at is)

pub returns-in-None : goal.returns-in-None
returns-in-None c = λ most text d utf8 read is.
    let over : c.args.reader.now ≡ [] = search rules in
    inr (inr (refl, d, text_read text d utf8 (rw over at read), shape_of most d _ c.in-None.is is))
