-- Serves SharedWords.antt, TurnWords.antt.
-- The words of a turn as a medium: each operation finds its word, sees what the core's event sees, and leaves the words
-- of the extended log.
use Rattle.chip_world.proofs.Names.{◌≡◌, ℕ, ◌+◌, ◌^◌, ◌<◌, ◌≤◌, Bool, true, false, Option}
use Rattle.chip_world.proofs.Names.{Some, None, is_some, sym, ◌∙◌, arith, bit_or, fired_word, adds_firings}
use Rattle.chip_world.proofs.Names.{halts_word, halts_by_limit, Setting, Act, Cause, cause, is_by_limit, SealedEdge}
use Rattle.chip_world.proofs.Names.{FiringLimit, act_of, event_of, FitsSeen, IsDueBy, MayServe, Serves, IsLonger}
use Rattle.chip_world.proofs.Names.{rules_met, saw, Log, Step, Event, Fire, Halt, Part, unmet_rule, part_of, does}
use Rattle.chip_world.proofs.Names.{part_in, word_of_part, sees, part_here, part_kept, fits_seen, seen_in}
use Rattle.chip_world.proofs.Names.{words_after, CanPerform, is_by_act, halt_bits, TurnWords, WordsHold}
use Rattle.chip_world.proofs.WordLemmas.{length-words_after, can_perform, sees_words, words_shown}
use Rattle.chip_world.proofs.StepLemmas.{by_act}
use Rattle.chip_part.specs.declared.act.Act.TheVariants as Do

-- the word of a vertex that halts
word_halts : (c : Option Cause) (why : Cause) (fired : ℕ) → fired < 2 ^ 62 → c ≡ Some why
    → bit_or (fired_word fired false false) (halt_bits (is_by_limit c)) ≡ fired_word fired (is_some c) (is_by_limit c)
word_halts None why fired few is = absurd (cc)
word_halts (Some SealedEdge) why fired few is = halts_word fired false false few
word_halts (Some FiringLimit) why fired few is = halts_by_limit fired false false few

module _ (w : TurnWords) (g : Setting) (v : ℕ) (log : Log) (s : Part) (held : WordsHold w g v log s) (act : Act)
    (due : IsDueBy g v s act) where
  abbrev x : Event
  x = event_of v act

  own : is_by_act x ≡ true
  own = by_act g v act held.inside due.mine

  met : unmet_rule g x (part_in g log (part_of g x)) ≡ None
  met = rw (due.mine, ← held.part_is) due.met

  needed : act_of g x (part_in g log (part_of g x)) ≡ act
  needed = rw (due.mine, ← held.part_is) (sym due.needed)

  pub finds : CanPerform act w.words
  finds = rw needed at
      (can_perform g held.is_setting.game held.is_setting.some_ring log held.legal w.words held.words_each held.words x
      own met)

  sees_it : seen_in act w.fired w.words ≡ sees g log x
  sees_it = rw needed at
      (sees_words g held.is_setting.game held.is_setting.some_ring log held.legal w.words held.words_each held.words
      w.fired x (rw (due.mine, ← held.part_is) held.fired_is) own met)

  -- what is seen is within the limits
  fits : (seen : ℕ) → seen ≡ sees g log x → FitsSeen s x seen
  fits seen is = rw is (rw (due.mine, ← held.part_is) at (fits_seen g held.is_setting.game held.is_setting.some_ring log
      held.legal x (rw due.mine held.inside) met))

  few_fired : s.fired ≤ g.game.limit
  few_fired = rw held.part_is (part_kept g held.is_setting.game log held.legal v).within

  pub longer : (new : TurnWords) (seen : ℕ) → seen ≡ seen_in act w.fired w.words → new.words ≡ words_after act w.words
      → new.fired ≡ word_of_part (does g (saw x seen) s)
      → IsLonger (WordsHold new) g v log s act seen
  longer new seen seen-is words-are fired-is =
      let is : seen ≡ sees g log x = seen-is ∙ sees_it in
      let step : Step = saw x seen in
      record {
        fits = fits seen is;
        held = record {
          inside = held.inside;
          is_setting = held.is_setting;
          legal = (held.legal, (met, is));
          part_is = rw held.part_is (sym (part_here g step log v due.mine));
          words_each = rw (words-are, length-words_after act w.words) held.words_each;
          words = λ e l d. rw (is, words-are) (rw needed at
              (words_shown g held.is_setting.game held.is_setting.some_ring log held.legal w.words held.words_each
              held.words x own met e l d));
          fired_is = fired-is;
        };
      }

-- a word can be found in all words of a turn that have it
pub finds_some : (w : TurnWords) (act : Act) → MayServe (WordsHold w) act → CanPerform act w.words
finds_some w act (g, v, log, s, held, due) = finds w g v log s held act due

-- an operation that neither fires nor halts
pub serves : (w new : TurnWords) (act : Act) (seen : ℕ) → seen ≡ seen_in act w.fired w.words
    → new.words ≡ words_after act w.words → new.fired ≡ w.fired
    → ((g : Setting) (v seen : ℕ) (s : Part)
    → word_of_part s ≡ word_of_part (does g (saw (event_of v act) seen) s))
    → Serves (WordsHold w) (WordsHold new) act seen
serves w new act seen seen-is words-are fired-is keeps = λ g v log s held due. longer w g v log s held act due new seen
    seen-is words-are (fired-is ∙ held.fired_is ∙ keeps g v seen s)

-- a firing
pub room_to_fire : (w : TurnWords) (k : ℕ) → MayServe (WordsHold w) (Do.Fire k) → w.fired + k < 2 ^ 64
room_to_fire w k (g, v, log, s, held, due) =
    let rules = rules_met g (Fire v k) s due.met in
    let word : word_of_part s ≡ (s.fired + 0) + 0 = rw rules.2 in
    let is = held.fired_is in
    let within = rules.6 in
    let low = held.is_setting.game.low_limit in
    omega arith

pub fires : (w new : TurnWords) (k seen : ℕ) → seen ≡ w.fired → new.words ≡ w.words → new.fired ≡ w.fired + k
    → Serves (WordsHold w) (WordsHold new) (Do.Fire k) seen
fires w new k seen seen-is words-are fired-is = λ g v log s held due.
    longer w g v log s held (Do.Fire k) due new seen seen-is words-are (rw (fired-is, held.fired_is)
    (adds_firings s.fired k (is_some s.halt) (is_by_limit s.halt)))

-- a halt
pub halts : (w new : TurnWords) (by_limit : Bool) (seen : ℕ) → seen ≡ w.fired → new.words ≡ w.words
    → new.fired ≡ bit_or w.fired (halt_bits by_limit) → Serves (WordsHold w) (WordsHold new) (Do.Halt by_limit) seen
halts w new by_limit seen seen-is words-are fired-is = λ g v log s held due.
    let rules = rules_met g (Halt v) s due.met in
    let word : word_of_part s ≡ fired_word s.fired false false = rw rules.2 in
    let within = few_fired w g v log s held (Do.Halt by_limit) due in
    let low = held.is_setting.game.low_limit in
    let few : s.fired < 2 ^ 62 = omega arith in
    let same : by_limit ≡ is_by_limit (cause g v s) = bits due.needed in
    longer w g v log s held (Do.Halt by_limit) due new seen seen-is words-are
    (rw (fired-is, held.fired_is, word, same) (word_halts (cause g v s) rules.4.0 s.fired few rules.4.1))
  where
    bits : {b c : Bool} → Do.Halt b ≡ Do.Halt c → b ≡ c
    bits same = cc
