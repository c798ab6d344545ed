use Rattle.chip_text_tests.proofs.CheckLemmas.{well_formed}
use Rattle.chip_text_tests.proofs.claims.play.judged.Goals as goal

pub judge_log-requires-clause-well_formed : goal.judge_log-requires-clause-well_formed
judge_log-requires-clause-well_formed g c = well_formed c.args.sizes c.args.rows.now c.requires.well_formed

pub beginners-requires : goal.beginners-requires
beginners-requires g c = (well_formed c.args.sizes c.args.rows.now c.requires.well_formed).fits
