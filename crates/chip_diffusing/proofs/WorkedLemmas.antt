-- Serves Worked.antt. The worked run, event by event.
use Rattle.std.proofs.Common.{◌≡◌, ℕ, ◌<◌, cond, eqb, refl, arith, [], ◌∷◌, Contains, None, true, false, rules}
use Rattle.std.proofs.lemmas.Bool.Decides.{nat_tests}
use Rattle.chip_diffusing.specs.Computation.{World, Send, Get, Ack, Settle, Work, Happens, OpensPart, Leads, IsLegalLog}
use Rattle.chip_diffusing.specs.Worked.{pair, worked_root, other_part, both, at_work, at_rest, acknowledged, closed, to_work, whole}

-- before all events; the root has sent; and it has ended
abbrev pub opening : World
opening = both (worked_root 0 0 false) (other_part 0 0 None true)

abbrev pub sent : World
sent = both (worked_root 1 0 false) (other_part 0 0 None true)

abbrev pub ended : World
ended = both (worked_root 1 0 true) (other_part 0 0 None true)

one_edge : (e : ℕ) → e < 1 → Contains (0 ∷ []) e
one_edge e l = (0, omega arith, (let z : 0 ≡ e = omega arith in z))

pub opens : (p : ℕ) → p < 2 → OpensPart pair p (opening p)
opens p l = record {
  ins = cond (eqb p 0) (0 ∷ []) [];
  outs = cond (eqb p 1) (0 ∷ []) [];
  all_ins = search (rules, arith, nat_tests, one_edge);
  all_outs = search (rules, arith, nat_tests, one_edge);
  fresh = search (rules, arith, nat_tests);
  sound = search (rules, arith, nat_tests);
  passive = λ other. grind (arith, nat_tests);
}

pub first_steps : Happens pair opening (Send 0) sent × Happens pair sent (Work 1) ended × Happens pair ended (Get 0) at_work
first_steps = search (rules, arith, nat_tests)

pub last_steps : Happens pair at_work (Work 0) at_rest × Happens pair at_rest (Ack 0 1) acknowledged
    × Happens pair acknowledged (Settle 0 1) closed
last_steps = search (rules, arith, nat_tests)

unfoldable pub leads_to_work : Leads pair opening to_work at_work
leads_to_work = (ended, (sent, (opening, refl, first_steps.0), first_steps.1), first_steps.2)

unfoldable pub whole_run : IsLegalLog pair whole closed
whole_run = record {
  first = opening;
  opens = opens;
  leads = (acknowledged, (at_rest, (at_work, leads_to_work, last_steps.0), last_steps.1), last_steps.2);
}
