use Rattle.chip_report.proofs.Names.{◌≡◌, ℕ, ◌+◌, ◌<◌, List, [], ◌∷◌, ◌++◌, length, map, take, get_or, refl, sym, ap}
use Rattle.chip_report.proofs.Names.{◌∙◌, arith, append_assoc, string_bytes, join_with_byte, decimal, take_more}
use Rattle.chip_report.proofs.Names.{map-append, length-map, length-take-le, comma, member_text}
use Rattle.chip_report.proofs.text.push_array.Goals as goal

-- one more number after others
join-push : (pieces : List (List ℕ)) (number : ℕ) → join_with_byte comma (pieces ++ decimal number ∷ [])
    ≡ join_with_byte comma pieces ++ member_text (length pieces) number
join-push [] number = refl
join-push (y ∷ []) number = refl
join-push (y ∷ z ∷ zs) number = ap (λ (r : List ℕ). y ++ (comma ∷ r)) (join-push (z ∷ zs) number)
    ∙ sym (append_assoc y (comma ∷ join_with_byte comma (z ∷ zs)) (comma ∷ decimal number))

-- an array as far as place i, and its next member
array-more : (numbers : List ℕ) (i : ℕ) → i < length numbers
    → join_with_byte comma (map decimal (take (i + 1) numbers)) ≡ join_with_byte comma (map decimal (take i numbers))
    ++ member_text i (get_or numbers i 0)
array-more numbers i l =
    let more = take_more numbers i 0 l in
    let mapped = map-append decimal (take i numbers) (get_or numbers i 0 ∷ []) in
    let many = length-map (take i numbers) decimal ∙ length-take-le i numbers (omega arith) in
    let pushed = join-push (map decimal (take i numbers)) (get_or numbers i 0) in cc

pub loop-i-preserved : goal.loop-i-preserved
loop-i-preserved c =
    let numbers : List ℕ = c.args.numbers.now in
    let i : ℕ = c.loop-i.i in
    let before : List ℕ = join_with_byte comma (map decimal (take i numbers)) in
    let next : List ℕ = member_text i (get_or numbers i 0) in
    c.in_ok-push_member.ensures
    ∙ ap (λ (t : List ℕ). t ++ next) c.loop-i.invariant
    ∙ append_assoc (string_bytes c.push_str.new.self) before next
    ∙ ap (λ (t : List ℕ). string_bytes c.push_str.new.self ++ t) (sym (array-more numbers i c.loop-i-test.true))
