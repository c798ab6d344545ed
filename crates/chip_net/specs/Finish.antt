-- What the root reads once it is closed, and the outcome it makes.
use Rattle.std.specs.Prelude.{◌≡◌, ℕ, suc, ◌<◌, ◌-◌, Bool, false, not, ◌&&◌, if◌then◌else◌, List, [], ◌∷◌, ◌++◌, length, map}
use Rattle.std.specs.Prelude.{slice_index, Some}
use Rattle.chip_graph.specs.ChipGame.{ChipGame}
use Rattle.chip_graph.specs.More.{HasMore}
use Rattle.chip_graph.specs.Sums.{filter_below}
use Rattle.chip_sequence.specs.declared.outcome.Outcome.{Outcome}
use Rattle.chip_sequence.specs.Outcomes.{IsOutcome}
use Rattle.chip_sequence.specs.Counted.{IsAfter}
use Rattle.chip_sequence.specs.Sequence.{position_after, counts, IsFiringSequence, HasEnded}
use Rattle.chip_sequence.specs.Play.{IsPlayed}
use Rattle.chip_link.specs.Words.{fired_in, is_halted_in, is_by_limit_in}
use Rattle.chip_part.specs.Edges.{root, stopper}
use Rattle.chip_part.specs.Steps.{saw}
use Rattle.chip_core.specs.Core.{Log, Step, Read, FitsLog, part_in, word_of_part, IsClosed}
use Rattle.chip_net.specs.Rule.{SomeLog}
use Rattle.chip_core.specs.Histories.{done_by}
use Rattle.chip_core.specs.Positions.{firings}
use Rattle.chip_core.specs.Outcomes.{IsOutcomeOf, ComesTo}
use Rattle.chip_net.specs.Roots.{RootKnown, root_after, fed_by}

-- the root, and the stopper if the root holds that part, made these steps in this log
pub record HasDoneIn (r : RootKnown) (log : Log) : Type 0 where
  pub root_did : r.did ≡ done_by r.net.setting (root r.net.setting) log
  pub stopper_did : (did : List Step) → r.stopper_did ≡ Some did
      → did ≡ done_by r.net.setting (stopper r.net.setting) log

-- one read was made, after some legal log with the root's steps
abbrev pub ReadsAt : RootKnown → RootKnown → ℕ → ℕ → Type 0
ReadsAt old new v seen = (new ≡ root_after old (saw (Read v) seen ∷ []))
    × SomeLog old.net.setting (λ log. FitsLog old.net.setting log (saw (Read v) seen) × HasDoneIn old log)

-- reads of the vertices from v on, each with the word that it saw
abbrev pub reads_from : ℕ → List ℕ → List Step
reads_from v [] = []
reads_from v (w ∷ ws) = saw (Read v) w ∷ reads_from (suc v) ws

-- some legal log has the root's steps, is closed, and has these fired words
abbrev pub IsReadOut : RootKnown → List ℕ → Type 0
IsReadOut r words = SomeLog r.net.setting (λ log. HasDoneIn r log × IsClosed r.net.setting log
    × ((v : ℕ) → v < length words → slice_index words v ≡ word_of_part (part_in r.net.setting log v)))

-- ---- the readings of the words

-- the counts, the vertices halted by the limit and by a seal, and room for this number of further vertices
pub record ReadingsState : Type 0 where
  pub fired : List ℕ
  pub over : List ℕ
  pub sealed : List ℕ
  pub room : ℕ

-- the readings of no vertex
abbrev pub no_readings : ℕ → ReadingsState
no_readings room = record { fired = []; over = []; sealed = []; room = room }

-- after one vertex more
abbrev pub readings_after : ℕ → Bool → Bool → ReadingsState → ReadingsState
readings_after fired halted by_limit t = record {
  fired = t.fired ++ fired ∷ [];
  over = t.over ++ (if by_limit then length t.fired ∷ [] else []);
  sealed = t.sealed ++ (if halted && not by_limit then length t.fired ∷ [] else []);
  room = t.room - 1;
}

-- the limit halted the vertex, by its word
abbrev pub is_by_limit_at : List ℕ → ℕ → Bool
is_by_limit_at words v = is_by_limit_in (slice_index words v)

-- a seal did
abbrev pub is_by_seal_at : List ℕ → ℕ → Bool
is_by_seal_at words v = is_halted_in (slice_index words v) && not (is_by_limit_in (slice_index words v))

-- the contents of these words, one for each vertex: the counts, and the halted vertices, by cause
pub record AreRead (words counted limited stopped : List ℕ) : Type 0 where
  pub fired : counted ≡ map fired_in words
  pub over : limited ≡ filter_below (is_by_limit_at words) (length words)
  pub sealed : stopped ≡ filter_below (is_by_seal_at words) (length words)

-- `count` reads were made, and these are their readings
pub record IsReading (old now : RootKnown) (readings : ReadingsState) (count : ℕ) : Type 0 where
  pub words : List ℕ
  pub count_is : length words ≡ count
  pub record_is : now ≡ root_after old (reads_from 0 words)
  pub told : 0 < length words → IsReadOut now words
  pub tallied : AreRead words readings.fired readings.over readings.sealed
  pub room_is : readings.room ≡ old.net.setting.game.graph.vertices - count

-- ---- the end

-- the counts and the chips are those of every firing sequence that ends with no vertex legal
abbrev pub IsOneEnd : ChipGame → Outcome → Type 0
IsOneEnd g o = (vs : List ℕ) → IsFiringSequence g.graph (slice_index g.start) vs
    → HasEnded g.graph (slice_index g.start) vs
    → ((v : ℕ) → slice_index o.fired.items v ≡ counts vs v)
    × ((v : ℕ) → slice_index o.chips.items v ≡ position_after g.graph (slice_index g.start) vs v)

-- every fired word was read once, ascending, and these readings give the outcome
pub record Finishes (old receipt : RootKnown) (o : Outcome) : Type 0 where
  -- the game played is the opened one with the chips fed added; without feeds it is the same
  pub game : ChipGame
  pub more : HasMore old.net.setting.game (fed_by old) game
  pub unfed : old.net.setting.fed ≡ false → game ≡ old.net.setting.game
  pub words : List ℕ
  pub one_each : length words ≡ old.net.setting.game.graph.vertices
  pub record_is : receipt ≡ root_after old (reads_from 0 words)
  -- the counts and the halts are those read, and the chips are the configuration by the counts
  pub read : AreRead words o.fired.items o.over.items o.sealed.items
  pub chips : IsAfter game o.fired.items o.chips.items
  -- it is the outcome of some legal closed log with the root's steps, and one thread reaches it
  pub read_out : IsReadOut receipt words
  pub of_log : IsOutcomeOf old.net.setting read_out.log o
  pub comes : ComesTo old.net.setting (slice_index game.start) (firings read_out.log) o
  pub in_range : IsOutcome o
  -- if no seal halted a vertex it is every player's, and if no vertex halted it is that of every play that ends
  pub played : o.sealed.items ≡ [] → IsPlayed game o
  pub one_end : o.over.items ≡ [] → o.sealed.items ≡ [] → IsOneEnd game o
  -- if the root holds the stopper's part, which made no step, no seal halted a vertex
  pub unsealed : old.stopper_did ≡ Some [] → o.sealed.items ≡ []
