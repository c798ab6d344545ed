-- The replies by which nothing was done, and the replies to concatenated lists of events.
use Rattle.std.specs.Prelude.{◌≡◌, ℕ, Bool, true, false, List, ◌++◌, length}
use Rattle.chip_part.specs.Setting.{Setting}
use Rattle.chip_part.specs.declared.reply.Reply.TheVariants.{Empty, Full, Sealed, NotNow}
use Rattle.chip_core.specs.Core.{Log, Event, Reply, Part, part_in, step, replies_to, log_after}

-- nothing was there to take, no cell was free, the edge was sealed, or a rule wasn't met
abbrev pub is_idle : Reply → Bool
is_idle Empty = true
is_idle Full = true
is_idle Sealed = true
is_idle (NotNow rule) = true
is_idle _ = false

-- two parts that differ only in their notes of a clear and of a refusal
pub record DifferInNotes (s t : Part) : Type 0 where
  pub chips : s.chips ≡ t.chips
  pub fired : s.fired ≡ t.fired
  pub halt : s.halt ≡ t.halt
  pub parent : s.parent ≡ t.parent
  pub put : (e : ℕ) → (s.out e).link.put ≡ (t.out e).link.put
  pub held : (e : ℕ) → (s.out e).link.held ≡ (t.out e).link.held
  pub pending : (e : ℕ) → (s.out e).pending ≡ (t.out e).pending
  pub settled : (e : ℕ) → (s.out e).settled ≡ (t.out e).settled
  pub got : (e : ℕ) → (s.into e).got ≡ (t.into e).got
  pub acked : (e : ℕ) → (s.into e).acked ≡ (t.into e).acked
  pub stop : (e : ℕ) → s.stop e ≡ t.stop e
  pub ended : s.ended ≡ t.ended

-- such a reply leaves all parts unchanged, except for these notes, whatever was done before
abbrev pub IdleStepsLeave : Type 0
IdleStepsLeave = (g : Setting) (log : Log) (x : Event) → is_idle (step g log x).1 ≡ true → (p : ℕ)
    → DifferInNotes (part_in g (step g log x).0 p) (part_in g log p)

-- each event has a reply, and the replies to events after others are those of a run after the others' run
abbrev pub RunsGoOn : Type 0
RunsGoOn = (g : Setting) (log : Log) (xs ys : List Event) →
    (length (replies_to g log xs) ≡ length xs)
    × (replies_to g log (xs ++ ys) ≡ replies_to g log xs ++ replies_to g (log_after g log xs) ys)
    × (log_after g log (xs ++ ys) ≡ log_after g (log_after g log xs) ys)
