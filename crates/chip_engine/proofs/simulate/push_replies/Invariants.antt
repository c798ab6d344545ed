use Rattle.std.proofs.Common.{◌≡◌, ◌++◌, take, flat_map, string_bytes}
use Rattle.chip_engine.specs.SimulateCommand.{reply_text}
use Rattle.chip_engine.proofs.simulate.push_replies.Given as goal

abbrev pub invariant-loop-reply : goal.invariant-loop-reply
invariant-loop-reply l =
    string_bytes l.lines ≡ string_bytes l.fn.lines ++ flat_map reply_text (take l.reply-index l.replies)
