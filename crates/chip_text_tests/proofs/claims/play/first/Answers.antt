use Rattle.chip_text_tests.proofs.CheckLemmas.{well_formed}
use Rattle.chip_text_tests.proofs.claims.play.first.Goals as goal

pub first_early-requires-clause-well_formed : goal.first_early-requires-clause-well_formed
first_early-requires-clause-well_formed g c = well_formed c.args.sizes c.args.rows.now c.requires.well_formed

pub beginners-requires : goal.beginners-requires
beginners-requires g c = (well_formed c.args.sizes c.args.rows.now c.requires.well_formed).fits
