-- Logs of a distributed program, and their interleavings.
use Rattle.std.specs.Prelude.{◌≡◌, ℕ, ◌+◌, ◌==◌, nat_lt, Bool, true, false, ◌&&◌, not, if◌then◌else◌}
use Rattle.std.specs.Prelude.{List, [], ◌∷◌, ◌++◌, map}
use Rattle.chip_log.specs.declared.row.LogRow.{LogRow}
use Rattle.chip_log.specs.declared.row.Stream.{Stream}
use Rattle.chip_log.specs.declared.row.Step.{Step}
use Rattle.chip_log.specs.declared.row.Step.TheVariants.{Out, In, Passive, Active}

-- ---- rows

-- what p did by these rows, in order
abbrev pub steps_of : ℕ → List LogRow → List Step
steps_of p [] = []
steps_of p (x ∷ xs) = if x.process == p then x.step ∷ steps_of p xs else steps_of p xs

abbrev pub same_stream : Stream → Stream → Bool
same_stream s t = s.channel == t.channel && (if s.is_control then t.is_control else not t.is_control)

-- whether a step sends, or gets, a message of a stream
abbrev pub is_out : Stream → Step → Bool
is_out s (Out t) = same_stream s t
is_out s _ = false

abbrev pub is_in : Stream → Step → Bool
is_in s (In t) = same_stream s t
is_in s _ = false

-- how many of these steps pass a test
abbrev pub count_steps : (Step → Bool) → List Step → ℕ
count_steps test [] = 0
count_steps test (step ∷ steps) = (if test step then 1 else 0) + count_steps test steps

-- how many messages of a stream these steps send, and get
abbrev pub sends : Stream → List Step → ℕ
sends s steps = count_steps (is_out s) steps

abbrev pub gets : Stream → List Step → ℕ
gets s steps = count_steps (is_in s) steps

-- the same for rows, of whatever processes
abbrev pub count_rows : (Step → Bool) → List LogRow → ℕ
count_rows test xs = count_steps test (map (λ x. x.step) xs)

abbrev pub outs : Stream → List LogRow → ℕ
outs s xs = count_rows (is_out s) xs

abbrev pub ins : Stream → List LogRow → ℕ
ins s xs = count_rows (is_in s) xs

-- ---- activity

-- whether a process is active after these steps, which was so or not before them: a basic message makes it active
abbrev pub active_after : Bool → List Step → Bool
active_after was [] = was
active_after was (In s ∷ steps) = active_after (if s.is_control then was else true) steps
active_after was (Passive ∷ steps) = active_after false steps
active_after was (_ ∷ steps) = active_after was steps

-- a process begins active exactly if its first step says so
abbrev pub begins_active : List Step → Bool
begins_active (Active ∷ steps) = true
begins_active _ = false

-- whether p is active after these rows of a log
abbrev pub is_active : List LogRow → List LogRow → ℕ → Bool
is_active log before p = active_after (begins_active (steps_of p log)) (steps_of p before)

-- ---- interleavings

-- whether a step of p is enabled after these rows: a message that is got was sent before, and only an active process sends
-- basic messages
abbrev pub is_enabled : List LogRow → List LogRow → ℕ → Step → Bool
is_enabled log before p (Out s) = if s.is_control then true else is_active log before p
is_enabled log before p (In s) = nat_lt (ins s before) (outs s before)
is_enabled log before p _ = true

-- each row is enabled at its place, after the rows before it
abbrev pub AreEnabled : List LogRow → List LogRow → List LogRow → Type 0
AreEnabled log before [] = Unit {0}
AreEnabled log before (x ∷ xs) = (is_enabled log before x.process x.step ≡ true) × AreEnabled log (before ++ x ∷ []) xs

-- all rows of a log in one list: those of each process in their order, and each enabled at its place
pub record IsInterleaving (log xs : List LogRow) : Type 0 where
  pub whole : (p : ℕ) → steps_of p xs ≡ steps_of p log
  pub met : AreEnabled log [] xs

-- each stream has one process that sends, and one that gets
pub record HasEnds (log : List LogRow) : Type 0 where
  pub sender : Stream → ℕ
  pub receiver : Stream → ℕ
  pub sends : (s : Stream) (p : ℕ) → (p ≡ sender s → ⊥) → sends s (steps_of p log) ≡ 0
  pub gets : (s : Stream) (p : ℕ) → (p ≡ receiver s → ⊥) → gets s (steps_of p log) ≡ 0
