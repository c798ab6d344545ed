use Rattle.chip_file.proofs.LogLemmas.{log_few, well_formed}
use Rattle.chip_file.proofs.log.log_of_text.Goals as goal

pub returns-clause-well_formed : goal.returns-clause-well_formed
returns-clause-well_formed c =
    let all = c.in_ok-so_far.ensures c.new.ensures in well_formed _ c.in_ok-so_far.so_far all.1

pub returns-clause-beginners : goal.returns-clause-beginners
returns-clause-beginners c =
    let all = c.in_ok-so_far.ensures c.new.ensures in rw (all.1.rows, all.1.sizes) all.1.beginners

pub returns-clause-few : goal.returns-clause-few
returns-clause-few c = let all = c.in_ok-so_far.ensures c.new.ensures in log_few c.args.text.now _ all.1.rows
