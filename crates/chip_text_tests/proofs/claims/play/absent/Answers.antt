use Rattle.chip_text_tests.proofs.CheckLemmas.{well_formed}
use Rattle.chip_text_tests.proofs.claims.play.absent.Goals as goal

pub beginners-requires : goal.beginners-requires
beginners-requires g c = (well_formed c.args.sizes c.args.rows.now c.requires.well_formed).fits
