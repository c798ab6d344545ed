-- An event of a vertex: the slot of its edge among the vertex's, and its result over a medium.
use Rattle.std.specs.Prelude.{◌≡◌, ℕ, List, ◌∷◌, Option, Some, None}
use Rattle.chip_detect.specs.Slot.{IsSlotOf}
use Rattle.chip_part.specs.Setting.{Setting}
use Rattle.chip_part.specs.Part.{Part}
use Rattle.chip_part.specs.Rules.{Event, Take, Ack, Fire, Clear, Claim, Put, Halt, Settle, Feed, unmet_rule}
use Rattle.chip_part.specs.declared.rule.Rule.{Rule}
use Rattle.chip_part.specs.Steps.{Step, part_of, does, reply_of, saw}
use Rattle.chip_part.specs.declared.reply.Reply.{Reply}
use Rattle.chip_part.specs.declared.reply.Reply.TheVariants.{NotNow}
pub use Rattle.chip_actor.specs.declared.actor.finding.Found.{Found}
use Rattle.chip_actor.specs.declared.actor.finding.Found.TheVariants as At
use Rattle.chip_actor.specs.Actor.{Actor, StandsFor}
use Rattle.chip_actor.specs.Medium.{Holding}

-- the event of the vertex v that was found
abbrev pub event_found : ℕ → Found → Event
event_found v (At.Take slot) = Take slot.edge
event_found v (At.Settle slot) = Settle slot.edge
event_found v (At.Ack slot) = Ack slot.edge
event_found v (At.Fire k) = Fire v k
event_found v (At.Clear slot) = Clear slot.edge
event_found v (At.Claim slot) = Claim slot.edge
event_found v (At.Put slot) = Put slot.edge
event_found v At.Halt = Halt v
event_found v (At.Feed e k) = Feed e k

-- its slot is one of the edges into the vertex for a take and an acknowledgement, for other events one of those out of
-- it
abbrev pub IsPlaced : Actor → Found → Type 0
IsPlaced a (At.Take slot) = IsSlotOf a.ins.edges slot
IsPlaced a (At.Ack slot) = IsSlotOf a.ins.edges slot
IsPlaced a (At.Settle slot) = IsSlotOf a.outs.edges slot
IsPlaced a (At.Clear slot) = IsSlotOf a.outs.edges slot
IsPlaced a (At.Claim slot) = IsSlotOf a.outs.edges slot
IsPlaced a (At.Put slot) = IsSlotOf a.outs.edges slot
IsPlaced a _ = Unit {0}

-- ---- over a medium

-- some record is held that leaves the part that the actor stands for, and the event is its vertex's
abbrev pub MeetsEvent : Holding → Actor → Event → Type 0
MeetsEvent held a x = (g : Setting) × (ds : List Step) × (s : Part) × held g a.vertex ds s × StandsFor g s a
    × (part_of g x ≡ a.vertex)

-- these steps of the vertex v are held, and the actor b stands for the part that they leave
pub record KeepsSteps (now : Holding) (g : Setting) (v : ℕ) (ds : List Step) (s : Part) (b : Actor) : Type 0 where
  pub held : now g v ds s
  pub stands : StandsFor g s b
  pub vertex : b.vertex ≡ v

-- the result of an event of the vertex v, given the first of its rules that is not met: if there is one nothing is
-- made, else the record is longer by the event
abbrev pub IsAnswered : Holding → Setting → ℕ → List Step → Part → Event → Actor → Reply → Option Rule → Type 0
IsAnswered now g v ds s x b reply (Some rule) = KeepsSteps now g v ds s b × (reply ≡ NotNow rule)
IsAnswered now g v ds s x b reply None = (seen : ℕ) × KeepsSteps now g v (saw x seen ∷ ds) (does g (saw x seen) s) b
    × (reply ≡ reply_of g x seen s)

abbrev pub MakesEvent : Holding → Actor → Event → Holding → Actor → Reply → Type 0
MakesEvent old a x new b reply =
    (g : Setting) (ds : List Step) (s : Part) → old g a.vertex ds s → StandsFor g s a → part_of g x ≡ a.vertex
    → IsAnswered new g a.vertex ds s x b reply (unmet_rule g x s)
