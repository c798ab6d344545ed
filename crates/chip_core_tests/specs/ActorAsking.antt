-- An actor's replies to requests: the contracts of the tests.
use Rattle.std.specs.Prelude.{◌≡◌, ℕ, true}
use Rattle.chip_part.specs.Rules.{Event, unmet_rule}
use Rattle.chip_part.specs.declared.reply.Reply.{Reply}
use Rattle.chip_part.specs.Steps.{part_and_reply, saw}
use Rattle.chip_core_tests.specs.Asking.{may_ask}
use Rattle.chip_actor.specs.Actor.{Actor, WhateverPart, StandsFor}

-- the actor replied this: whatever part it represented, it represents that part after the request, at the same vertex
abbrev pub AnswersFor : Actor → Actor → Event → ℕ → Reply → Type 0
AnswersFor old new x seen reply =
    WhateverPart old (λ g s. may_ask g old.vertex s x seen ≡ true
    → StandsFor g (part_and_reply g (saw x seen) s (unmet_rule g x s)).0 new
    × (reply ≡ (part_and_reply g (saw x seen) s (unmet_rule g x s)).1) × (new.vertex ≡ old.vertex))
