-- The words of a turn: those of all edges, and the fired word of the vertex whose turn it is.
use Rattle.std.specs.Prelude.{◌≡◌, ℕ, ◌<◌, length, slice_index_or}
pub use Rattle.chip_world.specs.declared.turn_words.TurnWords.{TurnWords}
use Rattle.chip_part.specs.Setting.{Setting, IsSetting}
use Rattle.chip_core.specs.Core.{Log, Part, part_in, word_of_part, all_edges, IsLegalLog}
use Rattle.chip_world.specs.SharedWords.{EdgeState}
use Rattle.chip_world.specs.World.{ShowsEdge}

-- they are the words after this log, and this is the part of the vertex v after it
pub record WordsHold (w : TurnWords) (g : Setting) (v : ℕ) (log : Log) (s : Part) : Type 0 where
  pub inside : v < g.game.graph.vertices
  pub is_setting : IsSetting g
  pub legal : IsLegalLog g log
  pub part_is : s ≡ part_in g log v
  pub words_each : length w.words ≡ all_edges g
  pub words : (e : ℕ) → e < all_edges g → (d : EdgeState) → ShowsEdge g log e (slice_index_or w.words e d)
  pub fired_is : w.fired ≡ word_of_part s
