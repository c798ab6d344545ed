use Rattle.std.proofs.Common.{refl}
use Rattle.std.specs.Fmt.{digits}
use Rattle.chip_engine.proofs.laws.worked_row.Goals as goal

pub returns : goal.returns
unfolding digits
returns c = λ row is. record {
  asked = rw (is.number, is.name, is.letters, is.meaning, is.reading, is.advice) refl;
  unknown = rw is.number refl;
  listed = rw (is.number, is.name, is.letters, is.meaning) refl;
}
