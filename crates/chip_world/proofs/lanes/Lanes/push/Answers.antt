use Rattle.chip_world.proofs.Names.{◌≡◌, ◌<◌, ℕ, List, [], ◌∷◌, ◌++◌, length, map, get_or, set, ap}
use Rattle.chip_world.proofs.Names.{Vec, Global, vec_capacity, map-set, get_or-map, length-map, Message, Lane, no_lane}
use Rattle.chip_world.proofs.Names.{lane_at, with_message}
use Rattle.chip_world.proofs.lanes.Lanes.push.Goals as goal

abbrev lane_of : Vec Message Global → Lane
lane_of v = record { messages = v.items; capacity = vec_capacity v }

pushed : (lists : List (Vec Message Global)) (e : ℕ) (m : Message) (old new : Vec Message Global) → e < length lists
    → old ≡ get_or lists e old → new.items ≡ old.items ++ m ∷ [] → vec_capacity new ≡ vec_capacity old
    → map lane_of (set lists e new) ≡ with_message e m (map lane_of lists)
pushed lists e m old new inside old_is items room =
    let lane : lane_at (map lane_of lists) e ≡ lane_of old =
    rw old_is (get_or-map lane_of lists e old no_lane inside) in
    rw (map-set lane_of lists e new, lane)
    (ap (set (map lane_of lists) e) (λ j. let l : Lane = record { messages = items j; capacity = room j } in l))

pub returns : goal.returns
returns c =
    rw (← c.self.view_is)
    (pushed c.self.inside.lists.items c.args.edge c.args.message c.index_mut.result.now c.push_reserved.new.self
    (rw (← c.self.view_is, length-map c.self.inside.lists.items lane_of) at c.requires.edge) c.index_mut.ensures.value
    c.push_reserved.ensures.items c.push_reserved.ensures.capacity)
