-- Which requests ask for lines of progress.
use Rattle.std.specs.Prelude.{Bool, false}
use Rattle.chip_arguments.specs.declared.arguments.Request.{Request}
use Rattle.chip_arguments.specs.declared.arguments.Request.TheVariants.{Plain, Avalanches, Run, Resume, Verify, Judge}

-- whether a request asks for lines of progress: six commands can
abbrev pub asks_progress : Request → Bool
asks_progress (Plain asked) = asked.game.progress
asks_progress (Avalanches asked) = asked.game.progress
asks_progress (Run asked) = asked.game.progress
asks_progress (Resume asked) = asked.progress
asks_progress (Verify asked) = asked.game.progress
asks_progress (Judge asked) = asked.progress
asks_progress _ = false
