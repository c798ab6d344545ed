use Rattle.chip_command.proofs.RoundTripLemmas.{written_is_read, file_is_read_back, read_is_in_graph}
use Rattle.chip_command.proofs.laws.written_traces.Goals as goal

pub returns-clause-meaning : goal.returns-clause-meaning
returns-clause-meaning c = written_is_read

pub returns-clause-answer : goal.returns-clause-answer
returns-clause-answer c = file_is_read_back

pub returns-clause-only : goal.returns-clause-only
returns-clause-only c = read_is_in_graph
