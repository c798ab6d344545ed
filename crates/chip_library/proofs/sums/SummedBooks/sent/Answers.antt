use Rattle.std.proofs.Common.{refl, arith}
use Rattle.chip_detect.proofs.ChangesLemmas.{all_open_bound}
use Rattle.chip_library.proofs.SumsLemmas.{sent_sums}
use Rattle.chip_library.proofs.sums.SummedBooks.sent.Goals as goal

pub returns-in_default-clause-notes : goal.returns-in_default-clause-notes
returns-in_default-clause-notes c = (
  refl,
  λ sums. (
    refl,
    λ sound room. omega
        (arith, c.in_default.ensures, sums.deficit, all_open_bound c.args.self.now.outs.now sound.outs),
  ),
)

pub returns-clause-notes : goal.returns-clause-notes
returns-clause-notes c sums =
    let noted = c.in_ok-sent.ensures c.args.self.now.ins.now c.args.self.now.parent in (
      noted,
      λ sound. sent_sums _ _ c.args.edge sums sound (noted sound).0 (noted sound).2 refl c.in-Some.ensures.1,
    )
