-- Serves ReportLists.antt, Versions.antt.
-- Worked texts and lists, computed on the definitions.
use Rattle.chip_report.proofs.Names.{◌≡◌, true, false, [], ◌∷◌, codes, refl, first_list, text_after_list}
use Rattle.chip_report.proofs.Names.{numbers_spelled}
use Rattle.chip_report.proofs.Names.{content_by_text}

-- the small triangle, played to its end
triangle : content_by_text false (codes
    "{\"chips\":[1,0,3],\"closed\":true,\"fired\":[2,1,0],\"over\":[],\"sealed\":[],\"version\":1}\n") ≡ record {
      last = record { fired = 2 ∷ 1 ∷ 0 ∷ []; chips = 1 ∷ 0 ∷ 3 ∷ []; over = []; sealed = [] };
      prior = 0 ∷ 0 ∷ 0 ∷ [];
    }
triangle = refl

-- what comes before the brackets does not matter
other_fronts : content_by_text true (codes "[5] and [2], [], [7],[0]") ≡ record {
  last = record { fired = 2 ∷ []; chips = 5 ∷ []; over = []; sealed = 0 ∷ [] };
  prior = 7 ∷ [];
}
other_fronts = refl

-- what is in the first brackets, and after them
first : first_list (codes "a[1,2],[3]") ≡ codes "1,2"
first = refl

rest : text_after_list (codes "a[1,2],[3]") ≡ codes ",[3]"
rest = refl

-- a list without a number, and one with leading zeros
no_number : numbers_spelled [] ≡ []
no_number = refl

leading_zeros : numbers_spelled (codes "007,10") ≡ 7 ∷ 10 ∷ []
leading_zeros = refl
