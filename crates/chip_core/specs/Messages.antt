-- The messages of an edge, read off events and replies.
use Rattle.std.specs.Prelude.{◌≡◌, ℕ, ◌+◌, ◌==◌, ◌||◌, Bool, false, if◌then◌else◌, List, [], ◌∷◌, ◌++◌, length, drop}
use Rattle.std.specs.Prelude.{sum_by, slice_get, Some}
use Rattle.chip_part.specs.Setting.{Setting}
pub use Rattle.chip_link.specs.declared.message.Message.{Message}
use Rattle.chip_link.specs.Link.{sent_counts}
use Rattle.chip_part.specs.declared.reply.Reply.TheVariants.{Done, Got, Sent}
use Rattle.chip_part.specs.Steps.{message_of}
use Rattle.chip_core.specs.Core.{Log, Event, Reply, Take, Claim, Seal, Feed, out_in, into_in, replies_to}

-- the message that one reply reports as sent on the edge e: a claim of e was accepted, or the root fed on it
abbrev pub sent_by : ℕ → Event → Reply → List Message
sent_by e (Claim i) (Sent message) = if i == e then message ∷ [] else []
sent_by e (Feed i k) (Sent message) = if i == e then message ∷ [] else []
sent_by e _ _ = []

-- the message that one reply reports as delivered on the edge e: a take of e got it
abbrev pub delivered_by : ℕ → Event → Reply → List Message
delivered_by e (Take i) (Got message) = if i == e then message ∷ [] else []
delivered_by e _ _ = []

-- a seal of the edge e was made
abbrev pub is_seal_of : ℕ → Event → Reply → Bool
is_seal_of e (Seal i) (Done claims) = i == e
is_seal_of e _ _ = false

-- all messages that were sent on e
abbrev pub sent_in : ℕ → List Event → List Reply → List Message
sent_in e (x ∷ xs) (r ∷ rs) = sent_by e x r ++ sent_in e xs rs
sent_in e _ _ = []

-- all messages that were delivered on e
abbrev pub delivered_in : ℕ → List Event → List Reply → List Message
delivered_in e (x ∷ xs) (r ∷ rs) = delivered_by e x r ++ delivered_in e xs rs
delivered_in e _ _ = []

-- those sent on e after its first seal
abbrev pub sent_after_seal : ℕ → List Event → List Reply → List Message
sent_after_seal e (x ∷ xs) (r ∷ rs) = if is_seal_of e x r then sent_in e xs rs else sent_after_seal e xs rs
sent_after_seal e _ _ = []

-- an event is a seal of the edge e
abbrev pub is_seal : ℕ → Event → Bool
is_seal e (Seal i) = i == e
is_seal e _ = false

-- the edge e is sealed: some event made is a seal of it
abbrev pub was_sealed : Log → ℕ → Bool
was_sealed [] e = false
was_sealed (x ∷ log) e = is_seal e x.event || was_sealed log e

-- counts as messages of the edge e, with consecutive places from this one on
abbrev pub messages_from : ℕ → ℕ → List ℕ → List Message
messages_from e place [] = []
messages_from e place (count ∷ counts) = message_of e place count ∷ messages_from e (place + 1) counts

-- the counts that were sent on e and not delivered, in order
abbrev pub counts_in_flight : Setting → Log → ℕ → List ℕ
counts_in_flight g log e = drop (length (into_in g log e).got) (sent_counts (out_in g log e).link)

-- the messages sent on e and not delivered; at the opening a root edge has one if its vertex starts with chips
abbrev pub in_flight : Setting → Log → ℕ → List Message
in_flight g log e = messages_from e (length (into_in g log e).got) (counts_in_flight g log e)

-- all messages that a run has to deliver on e: those in flight before it, and then those that it sent
abbrev pub to_deliver : Setting → Log → List Event → ℕ → List Message
to_deliver g log xs e = in_flight g log e ++ sent_in e xs (replies_to g log xs)

-- those that it delivered
abbrev pub delivered_on : Setting → Log → List Event → ℕ → List Message
delivered_on g log xs e = delivered_in e xs (replies_to g log xs)

-- messages of the edge e, each once and in order: their places are consecutive from this one on
abbrev pub AreInOrderFrom : ℕ → ℕ → List Message → Type 0
AreInOrderFrom e place ms = (p : ℕ) (m : Message) → slice_get ms p ≡ Some m → (m.edge ≡ e) × (m.place ≡ place + p)

-- the chips of messages
abbrev pub chips_in : List Message → ℕ
chips_in ms = sum_by (λ m. m.count) ms
