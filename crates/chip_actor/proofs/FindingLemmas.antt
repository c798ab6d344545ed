-- Serves Found.antt, Medium.antt.
-- An event whose rules are met is due.
use Rattle.chip_actor.proofs.Names.{◌≡◌, None, Setting, Act, Part, Event, unmet_rule, part_of, act_of}
use Rattle.chip_actor.proofs.Names.{event_of, event_of_act, Actor, StandsFor, IsDueBy}

pub is_due : (g : Setting) (s : Part) (a : Actor) → StandsFor g s a → (act : Act) (x : Event) → part_of g x ≡ a.vertex
    → unmet_rule g x s ≡ None → act ≡ act_of g x s → (event_of a.vertex act ≡ x) × IsDueBy g a.vertex s act
is_due g s a stands act x mine met is =
    let told : event_of a.vertex act ≡ x = rw is (event_of_act g a.vertex stands.knows.vertex s x mine met) in
    (told, record { mine = rw told mine; met = rw told met; needed = rw told is })
