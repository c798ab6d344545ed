-- What the arguments of a command ask of its engine.
use Rattle.std.specs.Prelude.{Bool, if◌then◌else◌, Option, None, option_map}
use Rattle.chip_graph.specs.Limits.{SizeLimits, standard, large}
use Rattle.chip_link.specs.Rings.{ring_of}
use Rattle.chip_arguments.specs.declared.arguments.GameArguments.{GameArguments}
use Rattle.chip_arguments.specs.declared.arguments.SimulationArguments.{SimulationArguments}
use Rattle.chip_arguments.specs.declared.arguments.RunArguments.{RunArguments}
use Rattle.chip_arguments.specs.declared.arguments.ReplayArguments.{ReplayArguments}
use Rattle.chip_arguments.specs.declared.arguments.JudgeArguments.{JudgeArguments}
use Rattle.chip_engine.specs.declared.judge.JudgeOptions.{JudgeOptions}
use Rattle.chip_command.specs.declared.options.PlayOptions.{PlayOptions}
use Rattle.chip_engine.specs.declared.replay.ReplayOptions.{ReplayOptions}
use Rattle.chip_engine.specs.declared.simulate.SimulateOptions.{SimulateOptions}
use Rattle.chip_crew.specs.declared.plan.Sharing.TheVariants.{Dealt, Queue}
use Rattle.chip_run.specs.declared.running.RunOptions.{RunOptions}

-- the limits of a graph and of the files of its game
abbrev pub limits_of : Bool → SizeLimits
limits_of is_large = if is_large then large else standard

-- how a game is played
abbrev pub play_options : GameArguments → PlayOptions
play_options asked = record { limits = limits_of asked.large; limit = asked.limit }

-- how a log is judged
abbrev pub judge_options : JudgeArguments → JudgeOptions
judge_options asked = record {
  limits = limits_of asked.large;
  past = asked.past;
  first = asked.first;
  processes = asked.processes;
}

-- how a recorded run is replayed
abbrev pub replay_options : ReplayArguments → ReplayOptions
replay_options asked = record { play = play_options asked.game; complete = asked.complete }

-- how a schedule is run, if a ring may have this number of cells
abbrev pub simulate_options : SimulationArguments → Option SimulateOptions
simulate_options asked = option_map (λ ring. record {
  play = play_options asked.game;
  ring = ring;
  rounds = asked.rounds;
  books = asked.books;
  fed = asked.fed;
}) (ring_of asked.ring)

-- how threads play a game
abbrev pub run_options : RunArguments → RunOptions
run_options asked = record {
  limits = limits_of asked.game.large;
  limit = asked.game.limit;
  plan = record {
    workers = asked.workers;
    ring = asked.ring;
    turns = asked.turns;
    trace_rows = asked.trace_rows;
    seal = None;
  };
  sharing = if asked.dealt then Dealt else Queue;
}
