use Rattle.std.proofs.Common.{◌≡◌, List, [], ◌∷◌, Option, Some, None, refl, ap, ◌∙◌, arith, rules}
use Rattle.std.proofs.lemmas.Bool.Decides.{nat_tests}
use Rattle.std.specs.Fmt.{digits}
use Rattle.chip_graph.specs.Worked.{triangle}
use Rattle.chip_log.specs.declared.past.Sizes.{Sizes}
use Rattle.chip_log.specs.declared.row.LogRow.{LogRow}
use Rattle.chip_sequence.specs.Sequence.{IsWholePlay, position_after}
use Rattle.chip_sequence.specs.Worked.{chips_on}
use Rattle.chip_sequence.proofs.LegalLemmas.{legal_vertices_law}
use Rattle.chip_command.proofs.OneReportLemmas.{same_numbers}
use Rattle.chip_agree.specs.Worked.{in_order, mixed, swapped}
use Rattle.chip_agree.proofs.laws.worked.Goals as goal

-- a text means one log
one_log : (meant : Option (List LogRow × Sizes)) (log other : List LogRow) (sizes others : Sizes)
    → meant ≡ Some (log, sizes) → meant ≡ Some (other, others) → log ≡ other
one_log meant log other sizes others one two =
    let both : (log, sizes) ≡ (other, others) = cc in ap (λ (x : List LogRow × Sizes). x.0) both

pub returns-clause-logs : goal.returns-clause-logs
returns-clause-logs c = record {
  same = λ one two first second. record {
    log = in_order;
    other = mixed;
    sizes = _;
    others = _;
    one_is = first;
    two_is = second;
    same = λ p. grind (arith, nat_tests);
  };
  not_same = λ one two first second are.
      let log = one_log _ are.log in_order _ _ are.one_is first in
      let other = one_log _ are.other swapped _ _ are.two_is second in
      absurd (cc (rw (log, other) at (are.same 0)));
  report = λ ended. refl;
  stuck = refl;
  failed = refl;
}

-- the play of the triangle
whole : IsWholePlay triangle (chips_on 4 0 0) 2 (0 ∷ 0 ∷ 1 ∷ [])
whole = record {
  sequence = search (rules, arith);
  within = λ v. grind (arith, nat_tests);
  ended = λ v can.
      let at = (legal_vertices_law triangle (position_after triangle (chips_on 4 0 0) (0 ∷ 0 ∷ 1 ∷ [])) v).1 can in
      absurd (omega (arith, at.1));
}

pub returns-clause-outcome : goal.returns-clause-outcome
returns-clause-outcome c o is =
    let fired = is.played.fired_each in let chips = is.played.chips_each in (
      same_numbers o.fired.items (2 ∷ 1 ∷ 0 ∷ []) fired
          (λ v l. is.played.counted (0 ∷ 0 ∷ 1 ∷ []) whole v ∙ grind (arith, nat_tests)),
      same_numbers o.chips.items (1 ∷ 0 ∷ 3 ∷ []) chips
          (λ v l. is.played.position (0 ∷ 0 ∷ 1 ∷ []) whole v ∙ grind (arith, nat_tests)),
    )

pub returns-clause-drops : goal.returns-clause-drops
unfolding digits
returns-clause-drops c = record {
  made = λ g chips (on, agree) limits graph_text chips_text drops_text rows ended means named wrote.
      let (text, o, end, answer) = agree limits graph_text chips_text drops_text rows None None ended means named wrote in
      (text, cc (answer, end.0));
  stopped = λ g (long, on, agree) limits graph_text chips_text drops_text rows ended means named wrote.
      let (text, o, end, answer) = agree limits graph_text chips_text drops_text rows None None ended means named wrote in
      (text, cc (answer, end));
  elsewhere = λ g chips (on, agree). absurd (cc on.vertices);
  later = λ g (long, on, agree). absurd (cc long);
}
