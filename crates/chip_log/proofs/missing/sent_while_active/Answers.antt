use Rattle.chip_log.proofs.MissingLemmas.{sent_while_active}
use Rattle.chip_log.proofs.missing.sent_while_active.Goals as goal

pub returns : goal.returns
returns c = sent_while_active
