use Rattle.std.proofs.Common.{refl, arith}
use Rattle.chip_detect.proofs.ChangesLemmas.{all_open_bound}
use Rattle.chip_library.proofs.SumsLemmas.{got_sums}
use Rattle.chip_library.proofs.sums.SummedBooks.got.Goals as goal

pub returns-in_default-clause-notes : goal.returns-in_default-clause-notes
returns-in_default-clause-notes c = (
  refl,
  λ sums. (
    refl,
    λ sound room. omega
        (arith, c.in_default.ensures, sums.owed, all_open_bound c.args.self.now.ins.now sound.ins),
  ),
)

pub returns-clause-notes : goal.returns-clause-notes
returns-clause-notes c sums =
    let noted = c.in_ok-got.ensures c.args.self.now.outs.now in (
      noted,
      λ sound. got_sums _ _ c.args.edge sums sound (noted sound).0 (noted sound).2 c.in-Some.ensures.1 refl,
    )
