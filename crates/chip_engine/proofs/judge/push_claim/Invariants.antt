use Rattle.std.proofs.Common.{◌≡◌, ◌++◌, take, flat_map, string_bytes, codes}
use Rattle.std.specs.Fmt.{decimal}
use Rattle.chip_engine.specs.JudgeCommand.{verdict_text, past_text}
use Rattle.chip_engine.proofs.judge.push_claim.Given as goal

abbrev pub invariant-loop-rows : goal.invariant-loop-rows
invariant-loop-rows l = string_bytes l.lines
    ≡ string_bytes l.fn.lines ++ codes "over " ++ decimal l.claim.process ++ codes " " ++ decimal l.claim.row
    ++ verdict_text l.claim.verdict ++ flat_map past_text (take l.rows-index l.claim.past.items)
