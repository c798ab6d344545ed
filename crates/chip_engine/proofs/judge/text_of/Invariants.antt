use Rattle.std.proofs.Common.{◌≡◌, take, flat_map, string_bytes}
use Rattle.chip_engine.specs.JudgeCommand.{claim_text}
use Rattle.chip_engine.proofs.judge.text_of.Given as goal

abbrev pub invariant-loop-claim : goal.invariant-loop-claim
invariant-loop-claim l = string_bytes l.lines ≡ flat_map claim_text (take l.claim-index l.judged.claims.items)
