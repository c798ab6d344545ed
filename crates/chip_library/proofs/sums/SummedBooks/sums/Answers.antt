use Rattle.std.proofs.Common.{refl}
use Rattle.chip_library.proofs.BooksLemmas.{all_possible}
use Rattle.chip_library.proofs.sums.SummedBooks.sums.Goals as goal

pub returns-in_default : goal.returns-in_default
returns-in_default c = (refl, λ are. c.in_default.ensures (all_possible c.args.self.now.ins.now are.sound.ins))

pub returns-in_default-all_open : goal.returns-in_default-all_open
returns-in_default-all_open c =
    (refl, λ are. c.in_default-all_open.ensures (all_possible c.args.self.now.outs.now are.sound.outs))
