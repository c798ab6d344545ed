-- The steps of a turn that count as work.
use Rattle.std.specs.Prelude.{ℕ, ◌+◌, Bool, true, false, nat_lt, if◌then◌else◌, List, [], ◌∷◌}
use Rattle.chip_part.specs.Setting.{Setting}
use Rattle.chip_part.specs.Part.{Part}
use Rattle.chip_part.specs.Steps.{Step, does, reply_of}
use Rattle.chip_part.specs.Acting.{act_of}
use Rattle.chip_part.specs.declared.act.Act.{Act}
use Rattle.chip_part.specs.declared.act.Act.TheVariants as Do
use Rattle.chip_part.specs.declared.reply.Reply.{Reply}
use Rattle.chip_part.specs.declared.reply.Reply.TheVariants.{Done, Got, Sent}

-- a message was taken
abbrev pub is_got : Reply → Bool
is_got (Got message) = true
is_got _ = false

-- a message was sent
abbrev pub is_sent : Reply → Bool
is_sent (Sent message) = true
is_sent _ = false

-- something new was settled
abbrev pub is_more : Reply → Bool
is_more (Done more) = nat_lt 0 more
is_more _ = false

-- a take of a message, a firing, an accepted claim, a put, a halt, an acknowledgement, and a settle with something new
abbrev pub is_work : Act → Reply → Bool
is_work (Do.Take e cell) reply = is_got reply
is_work (Do.Settle e) reply = is_more reply
is_work (Do.Fire k) reply = true
is_work (Do.Clear e cell) reply = false
is_work (Do.Claim e expected new) reply = is_sent reply
is_work (Do.Put e cell value) reply = true
is_work (Do.Halt by_limit) reply = true
is_work (Do.Ack e count) reply = true
is_work Do.End reply = false

-- the number of these steps that count, from a part on
abbrev pub work_of : Setting → Part → List Step → ℕ
work_of g s [] = 0
work_of g s (x ∷ xs) = (if is_work (act_of g x.event s) (reply_of g x.event x.seen s) then 1 else 0)
    + work_of g (does g x s) xs
