use Rattle.chip_file.proofs.Standing.{file_of_parts_kept}
use Rattle.chip_file.proofs.graph_text.file.Parts.into_file.Goals as goal

pub returns : goal.returns
returns c = λ most found stands. rw c.all_of.ensures (file_of_parts_kept c.args.self found c.if-self.false stands)
