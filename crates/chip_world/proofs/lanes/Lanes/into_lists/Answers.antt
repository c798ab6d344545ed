use Rattle.chip_world.proofs.Names.{◌≡◌, List, [], ◌∷◌, map, refl, Vec, Global, vec_capacity, Message, Lane}
use Rattle.chip_world.proofs.lanes.Lanes.into_lists.Goals as goal

same : (lists : List (Vec Message Global))
    → map (λ (t : Vec Message Global). t.items) lists
    ≡ map (λ (lane : Lane). lane.messages)
    (map (λ (v : Vec Message Global). let lane : Lane = record { messages = v.items; capacity = vec_capacity v } in
    lane) lists)
same [] = refl
same (t ∷ ts) = rw (same ts)

pub returns : goal.returns
returns c = rw (← c.self.view_is) (same c.self.inside.lists.items)
