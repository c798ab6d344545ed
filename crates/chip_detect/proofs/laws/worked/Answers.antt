use Rattle.std.proofs.Common.{refl, arith}
use Rattle.std.proofs.lemmas.Bool.Decides.{nat_tests}
use Rattle.chip_detect.proofs.laws.worked.Goals as goal

pub returns-clause-slot_of_the_last : goal.returns-clause-slot_of_the_last
returns-clause-slot_of_the_last c = record { within = omega arith; edge = refl }

pub returns-clause-engaging_message_last : goal.returns-clause-engaging_message_last
returns-clause-engaging_message_last c = record {
  got_first = record {
    ins = record { edges = refl; messages = λ e. grind (arith, nat_tests); answered = λ e. refl };
    outs = refl;
    parent = refl;
  };
  got_second = record {
    ins = record { edges = refl; messages = λ e. grind (arith, nat_tests); answered = λ e. refl };
    outs = refl;
    parent = refl;
  };
  not_yet = refl;
  the_other = refl;
  acked_second = record {
    ins = record { edges = refl; messages = λ e. refl; answered = λ e. grind (arith, nat_tests) };
    outs = refl;
    parent = refl;
  };
  now = refl;
  acked_first = record {
    ins = record { edges = refl; messages = λ e. refl; answered = λ e. grind (arith, nat_tests) };
    outs = refl;
    parent = refl;
  };
  neutral = refl;
}

pub returns-clause-two_on_the_parent_edge : goal.returns-clause-two_on_the_parent_edge
returns-clause-two_on_the_parent_edge c = record {
  got_first = record {
    ins = record { edges = refl; messages = λ e. grind (arith, nat_tests); answered = λ e. refl };
    outs = refl;
    parent = refl;
  };
  got_second = record {
    ins = record { edges = refl; messages = λ e. grind (arith, nat_tests); answered = λ e. refl };
    outs = refl;
    parent = refl;
  };
  active = refl;
  passive = refl;
}
