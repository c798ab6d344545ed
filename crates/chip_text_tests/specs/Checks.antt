-- What `chip_log` requires of a log, in a form that computes.
use Rattle.std.specs.Prelude.{ℕ, ◌==◌, nat_lt, Bool, true, ◌&&◌, List, [], ◌∷◌, ◌++◌, if◌then◌else◌}
use Rattle.chip_log.specs.Log.{steps_of, is_out, is_in, active_after, begins_active}
use Rattle.chip_log.specs.Order.{may_send}
use Rattle.chip_log.specs.declared.past.Sizes.{Sizes}
use Rattle.chip_log.specs.declared.row.LogRow.{LogRow}
use Rattle.chip_log.specs.declared.row.Stream.{Stream}
use Rattle.chip_log.specs.declared.row.Step.{Step}
use Rattle.chip_log.specs.declared.row.Step.TheVariants.{Out, In}

-- the process of the first row that sends on a stream, and of the first that gets
abbrev pub sender_in : List LogRow → Stream → ℕ
sender_in [] s = 0
sender_in (x ∷ xs) s = if is_out s x.step then x.process else sender_in xs s

abbrev pub receiver_in : List LogRow → Stream → ℕ
receiver_in [] s = 0
receiver_in (x ∷ xs) s = if is_in s x.step then x.process else receiver_in xs s

-- a step is at the end that its process has
abbrev pub is_at_end : List LogRow → ℕ → Step → Bool
is_at_end log p (Out s) = p == sender_in log s
is_at_end log p (In s) = p == receiver_in log s
is_at_end log p _ = true

abbrev pub have_ends : List LogRow → List LogRow → Bool
have_ends log [] = true
have_ends log (x ∷ xs) = is_at_end log x.process x.step && have_ends log xs

-- each basic message is sent by an active process
abbrev pub are_sent : List LogRow → List LogRow → List LogRow → Bool
are_sent log before [] = true
are_sent log before (x ∷ xs) =
    may_send (active_after (begins_active (steps_of x.process log)) (steps_of x.process before)) x.step
    && are_sent log (before ++ x ∷ []) xs

-- the channel of a step, if it has one, is below n
abbrev pub has_channel : ℕ → Step → Bool
has_channel n (Out s) = nat_lt s.channel n
has_channel n (In s) = nat_lt s.channel n
has_channel n _ = true

abbrev pub fit : Sizes → List LogRow → Bool
fit sizes [] = true
fit sizes (x ∷ xs) = nat_lt x.process sizes.processes && (has_channel sizes.channels x.step && fit sizes xs)

-- `ordered` may be called for the log
abbrev pub may_order : Sizes → List LogRow → Bool
may_order sizes log = have_ends log log && (are_sent log [] log && fit sizes log)
