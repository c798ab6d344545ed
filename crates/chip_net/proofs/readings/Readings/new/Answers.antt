use Rattle.chip_net.proofs.Names.{◌≡◌, ℕ, length, ap, ◌∙◌, arith, length-replicate}
use Rattle.chip_net.proofs.readings.Readings.new.Goals as goal

pub invariant_of-result : goal.invariant_of-result
invariant_of-result c =
    let l : length c.in_ok-vec.field-0.items ≡ c.args.room =
    ap length (c.in_ok-vec.ensures.items_if_clones_equal (λ y h. h)) ∙ (let z : ℕ = 0 in length-replicate _ z) in
    let fired = c.in_ok-with_capacity.ensures in let no_fired = ap length fired.items in let a = fired.capacity in
    let over = c.in_ok-with_capacity-2.ensures in let no_over = ap length over.items in let b = over.capacity in
    let sealed = c.in_ok-with_capacity-3.ensures in let no_sealed = ap length sealed.items in let d = sealed.capacity in
    omega arith
