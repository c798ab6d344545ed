-- Requests of the root with what they may see, and its replies: the contracts of the tests.
use Rattle.std.specs.Prelude.{◌≡◌, ℕ, Bool, true, false, ◌&&◌, ◌||◌, ◌==◌, List, [], ◌∷◌, is_some}
use Rattle.chip_part.specs.Setting.{Setting}
use Rattle.chip_part.specs.Edges.{root_edge}
use Rattle.chip_link.specs.Link.{claims_of}
use Rattle.chip_part.specs.Part.{Part, opening_part}
use Rattle.chip_part.specs.Rules.{Event, Settle, Feed, End, unmet_rule}
use Rattle.chip_part.specs.declared.reply.Reply.{Reply}
use Rattle.chip_part.specs.Steps.{part_and_reply, saw}
use Rattle.chip_part.specs.Acting.{is_of_root}
use Rattle.chip_core_tests.specs.Asking.{fits_seen, setting_on}
use Rattle.chip_actor.specs.Root.{Root, RootStandsFor, WhateverRoot}

-- what an event of the root may see
abbrev pub root_fits_seen : Setting → Part → Event → ℕ → Bool
root_fits_seen g s (Feed e k) seen = seen == claims_of (s.out e).link
root_fits_seen g s End seen = fits_seen s (Settle (root_edge g 0)) seen
root_fits_seen g s x seen = fits_seen s x seen

-- the root may get this request, and if it makes the event, it may see this
abbrev pub may_ask_root : Setting → Part → Event → ℕ → Bool
may_ask_root g s x seen = is_of_root g x && (is_some (unmet_rule g x s) || root_fits_seen g s x seen)

-- and requests in order
abbrev pub may_play_root : Setting → Part → List (Event × ℕ × Reply) → Bool
may_play_root g s [] = true
may_play_root g s (x ∷ xs) = may_ask_root g s x.0 x.1
    && may_play_root g (part_and_reply g (saw x.0 x.1) s (unmet_rule g x.0 s)).0 xs

-- the root replied this: whatever part it represented, it represents that part after the request
abbrev pub RootAnswers : Root → Root → Event → ℕ → Reply → Type 0
RootAnswers old new x seen reply =
    WhateverRoot old (λ g s. may_ask_root g s x seen ≡ true
    → RootStandsFor g (part_and_reply g (saw x seen) s (unmet_rule g x s)).0 new
    × (reply ≡ (part_and_reply g (saw x seen) s (unmet_rule g x s)).1))

-- the root may get these requests from the opening of a game
abbrev pub may_play_root_new : List (ℕ × ℕ) → List ℕ → Bool → List (Event × ℕ × Reply) → Bool
may_play_root_new ends start fed xs = let g = setting_on ends start fed in may_play_root g (opening_part g) xs

-- the triangle with four chips on vertex 0, and rings of one cell
abbrev pub four_on_first : Setting
four_on_first = setting_on ((0, 1) ∷ (0, 2) ∷ (1, 0) ∷ (1, 2) ∷ []) (4 ∷ 0 ∷ 0 ∷ []) false
